-- What an actor makes of an outcome that its node has planned.
use Rattle.std.specs.Prelude.{◌≡◌, ◌⊎◌, ℕ, ◌<◌, true, false, Result, Ok, Err, List, [], ◌++◌}
use Rattle.std.specs.declared.vec.Vec.{Vec}
use Rattle.std.specs.declared.alloc.Global.{Global}
use Rattle.paxos_packets.specs.declared.entry.Entry.{Entry}
use Rattle.paxos_packets.specs.declared.rows.Change.{Change}
use Rattle.paxos_packets.specs.declared.rows.Rows.{Rows}
use Rattle.paxos_acceptor.specs.Acceptor as accepting
use Rattle.store_keeper.specs.declared.fault.KeeperFault.{KeeperFault}
use Rattle.store_keeper.specs.declared.fault.KeeperFault.TheVariants as store
use Rattle.replica_machine.specs.Log.{LogState, IsLogOf, machine_from}
use Rattle.replica_machine.specs.Replay.{Steps}
use Rattle.actor_outboxes.specs.Outboxes.{WaitBehind}
use Rattle.paxos_node.specs.declared.outcome.Outcome.{Outcome}
use Rattle.paxos_planning.specs.Node.{NodeState}
use Rattle.paxos_node.specs.Adopting.{adopted}
use Rattle.actor_parts.specs.declared.fault.ActorFault.{ActorFault}
use Rattle.actor_parts.specs.declared.fault.ActorFault.TheVariants.{Failed, Rounds, Full, Keeper, Disagree, LostHere, Worn, Memory}
use Rattle.actor_parts.specs.Parts.{Parted, IsPrefixOf}
use Rattle.actor_parts.specs.Handing.{handed_out}

-- what a store holds and may find after a change
module _ {B K : Type 0} (finds : K → Rows B → Type 0) (failures : K → ℕ) where
  -- a fault came with a failure if it says so, and the rows that are found are those of before or those with the change
  pub record Falls (change : Change B) (rows : Rows B) (old new : K) (fault : KeeperFault) : Type 0 where
    pub found : (x : Rows B) → finds new x → (x ≡ rows) ⊎ (x ≡ accepting.adopted rows change)
    pub cause : fault ≡ store.Store → failures old < failures new

-- nothing is learned ahead of what is applied
abbrev pub IsAtEnd : {B M : Type 0} → LogState B M → Type 0
IsAtEnd log = log.ahead ≡ []

-- what a machine says and becomes at entries after its log
module _ {B S Y M : Type 0} (steps : Steps B S Y) (content : M → S) where
  -- the entries are applied at the end of the log, and these are the sayings at them to the transports of a node in a boot
  pub record Applied (node boot : ℕ) (entries : List (Entry B)) (old new : LogState B M) (said : List Y) : Type 0 where
    pub applied : new.applied ≡ old.applied ++ entries
    pub floor : new.floor ≡ old.floor
    pub alive : new.failed ≡ false
    pub says : (first : S) (under : List (Entry B)) → IsLogOf steps content first under old
        → said ≡ handed_out (machine_from steps first) node boot (under ++ old.applied) entries
    pub follows : (first : S) (under : List (Entry B)) → IsLogOf steps content first under old → IsLogOf steps content first under new

-- one part of an actor changes, and the others stay
module _ {B M K : Type 0} where
  pub record OnlyNode (old new : Parted B M K) : Type 0 where
    pub keeper : new.keeper ≡ old.keeper
    pub waiting : new.waiting ≡ old.waiting
    pub log : new.log ≡ old.log
    pub failed : new.failed ≡ old.failed
    pub spoiled : new.spoiled ≡ old.spoiled

  pub record OnlyKeeper (old new : Parted B M K) : Type 0 where
    pub node : new.node ≡ old.node
    pub waiting : new.waiting ≡ old.waiting
    pub log : new.log ≡ old.log
    pub failed : new.failed ≡ old.failed
    pub spoiled : new.spoiled ≡ old.spoiled

  pub record OnlyLog (old new : Parted B M K) : Type 0 where
    pub node : new.node ≡ old.node
    pub keeper : new.keeper ≡ old.keeper
    pub waiting : new.waiting ≡ old.waiting
    pub failed : new.failed ≡ old.failed
    pub spoiled : new.spoiled ≡ old.spoiled

  pub record OnlyWaiting (old new : Parted B M K) : Type 0 where
    pub node : new.node ≡ old.node
    pub keeper : new.keeper ≡ old.keeper
    pub log : new.log ≡ old.log
    pub failed : new.failed ≡ old.failed
    pub spoiled : new.spoiled ≡ old.spoiled
    pub me : new.waiting.me ≡ old.waiting.me
    pub members : new.waiting.members ≡ old.waiting.members

  -- the node that adopts the outcome
  abbrev pub next_node : Outcome B → Parted B M K → NodeState B
  next_node o a = adopted a.node.me a.node.members o a.node.state

  -- the outcome is adopted, and its packets wait
  pub record Adopts (o : Outcome B) (old new : Parted B M K) : Type 0 where
    pub node : new.node.state ≡ next_node o old
    pub me : new.node.me ≡ old.node.me
    pub members : new.node.members ≡ old.node.members
    pub waits : WaitBehind o.packets old.waiting new.waiting
    pub waits_me : new.waiting.me ≡ old.waiting.me
    pub waits_members : new.waiting.members ≡ old.waiting.members
    pub keeper : new.keeper ≡ old.keeper
    pub log : new.log ≡ old.log
    pub failed : new.failed ≡ old.failed
    pub spoiled : new.spoiled ≡ old.spoiled

  -- its node, its members and whom its outboxes are for stay
  pub record StaysWho (old new : Parted B M K) : Type 0 where
    pub me : new.node.me ≡ old.node.me
    pub members : new.node.members ≡ old.node.members
    pub waits_me : new.waiting.me ≡ old.waiting.me
    pub waits_members : new.waiting.members ≡ old.waiting.members

-- what is said is returned while the node is up; otherwise the actor is spoiled, and says so
abbrev pub AnswersUp : {B M K Y : Type 0} → List Y → Parted B M K → Parted B M K → Result (Vec Y Global) (ActorFault Y) → Type 0
AnswersUp says old new (Ok found) = (old.node.state.up ≡ true) × (new ≡ old) × (found.items ≡ says)
AnswersUp says old new (Err (LostHere found)) = (old.node.state.up ≡ false) × (new ≡ record old { spoiled = true }) × (found.items ≡ says)
AnswersUp says old new (Err (Keeper fault)) = ⊥
AnswersUp says old new (Err Memory) = ⊥
AnswersUp says old new (Err Worn) = ⊥
AnswersUp says old new (Err Failed) = ⊥
AnswersUp says old new (Err Rounds) = ⊥
AnswersUp says old new (Err Full) = ⊥
AnswersUp says old new (Err Disagree) = ⊥

module _ {B S Y M K : Type 0} (steps : Steps B S Y) (content : M → S) where
  -- the outcome is adopted, and the machine has followed what it applied
  pub record Takes (o : Outcome B) (old new : Parted B M K) (says : List Y) : Type 0 where
    pub node : new.node.state ≡ next_node o old
    pub waits : WaitBehind o.packets old.waiting new.waiting
    pub keeper : new.keeper ≡ old.keeper
    pub failed : new.failed ≡ old.failed
    pub applied : Applied steps content old.waiting.me old.node.state.rows.boot o.applied old.log new.log says
    pub end : IsAtEnd new.log

  -- the same, but the machine has followed the first of these alone
  pub record TakesNot (o : Outcome B) (old new : Parted B M K) : Type 0 where
    pub node : new.node.state ≡ next_node o old
    pub front : IsPrefixOf new.log.applied (old.log.applied ++ o.applied)
    pub waits : WaitBehind o.packets old.waiting new.waiting
    pub keeper : new.keeper ≡ old.keeper
    pub failed : new.failed ≡ old.failed

  -- all that may come of an outcome that is committed
  abbrev pub TakesIn : Outcome B → Parted B M K → Parted B M K → Result (Vec Y Global) (ActorFault Y) → Type 0
  TakesIn o old new (Ok says) = (new.node.state.up ≡ true) × (new.spoiled ≡ old.spoiled) × Takes o old new says.items
  TakesIn o old new (Err (LostHere says)) = (new.node.state.up ≡ false) × (new.spoiled ≡ true) × Takes o old new says.items
  TakesIn o old new (Err Memory) = (new.spoiled ≡ true) × TakesNot o old new
  TakesIn o old new (Err (Keeper fault)) = ⊥
  TakesIn o old new (Err Worn) = ⊥
  TakesIn o old new (Err Failed) = ⊥
  TakesIn o old new (Err Rounds) = ⊥
  TakesIn o old new (Err Full) = ⊥
  TakesIn o old new (Err Disagree) = ⊥
