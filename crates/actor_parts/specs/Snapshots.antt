-- From which log a machine goes on, by what its node commits: from the one that it has followed, whose entries it forgets if the node rests on a
-- snapshot of it; or from one that is made of a snapshot which the node takes (docs/CONSENSUS.md, "A node with its store").
use Rattle.std.specs.Prelude.{◌≡◌, ℕ, Bool, false, Option, Some, None, is_none, option_map, IsSomeAnd, List, []}
use Rattle.std.specs.Global.{Box}
use Rattle.paxos_packets.specs.Snapshot.{Snapshot, floor_in}
use Rattle.paxos_acceptor.specs.Acceptor as accepting
use Rattle.paxos_planning.specs.Node.{NodeState}
use Rattle.paxos_node.specs.Adopting.{goes_on}
use Rattle.paxos_node.specs.declared.outcome.Outcome.{Outcome}
use Rattle.replica_machine.specs.Log.{LogState, cut_log}
use Rattle.replica_machine.specs.Snapshot.{loaded_log, IsLoaded}

-- there is a snapshot, and no log is made of its octets
abbrev pub is_no_log : {S : Type 0} → (List ℕ → Option S) → Option Snapshot → Bool
is_no_log loaded None = false
is_no_log loaded (Some s) = is_none (loaded_log loaded s.octets)

-- the log is made of the snapshot's octets, and has its floor; without a snapshot there is none
abbrev pub IsMadeOf : {B M S : Type 0} → (M → S) → (List ℕ → Option S) → Option Snapshot → Option (LogState B M) → Type 0
IsMadeOf content loaded None None = Unit {0}
IsMadeOf content loaded None (Some log) = ⊥
IsMadeOf content loaded (Some s) None = ⊥
IsMadeOf content loaded (Some s) (Some log) =
    IsSomeAnd (loaded_log loaded s.octets) (λ kept. IsLoaded content kept log) × (log.floor ≡ s.floor)

-- what the box holds, if there is one
abbrev pub unboxed : {X : Type 0} → Option (Box X) → Option X
unboxed made = option_map (λ b. b.value) made

-- the log from which the machine goes on: one that was made; or the one that there is, cut if its node rests on a snapshot
abbrev pub base_log : {B M : Type 0} → Option (LogState B M) → Option Snapshot → LogState B M → LogState B M
base_log (Some made) snapshot log = made
base_log None (Some s) log = cut_log log
base_log None None log = log

-- the log stands where the node does that goes on with the outcome, before the outcome's entries are applied
pub record IsBase {B M : Type 0} (o : Outcome B) (x : NodeState B) (base : LogState B M) : Type 0 where
  pub applied : base.applied ≡ (goes_on o x).applied
  pub floor : base.floor ≡ floor_in (accepting.adopted x.rows o.change).snapshot
  pub alive : base.failed ≡ false
  pub ahead : base.ahead ≡ []
