-- A round of an actor that is under way: what each event makes of it, and what it has come to (docs/ARCHITECTURE.md, "Threads").
use Rattle.std.specs.Prelude.{◌≡◌, ◌⊎◌, ◌<◌, ◌≤◌, ℕ, suc, ◌||◌, Bool, true, false, Option, Some, None, Result, Ok, Err, List, [], ◌∷◌, ◌++◌, length, map}
use Rattle.std.specs.declared.vec.Vec.{Vec}
use Rattle.std.specs.declared.alloc.Global.{Global}
use Rattle.cluster_world.specs.Has.{Has}
use Rattle.paxos_packets.specs.declared.packet.Packet.{Packet}
use Rattle.paxos_packets.specs.declared.rows.Rows.{Rows}
use Rattle.store_keeper.specs.declared.fault.KeeperFault.{KeeperFault}
use Rattle.store_keeper.specs.declared.fault.KeeperFault.TheVariants as store
use Rattle.replica_machine.specs.Replay.{Steps}
use Rattle.actor_outboxes.specs.Outboxes.{IsPeer}
use Rattle.paxos_node.specs.declared.event.Event.{Event}
use Rattle.actor_parts.specs.declared.fault.ActorFault.{ActorFault}
use Rattle.actor_parts.specs.declared.fault.ActorFault.TheVariants.{Failed, Rounds, Full, Keeper, Disagree, LostHere, Worn, Memory}
use Rattle.mail_table.specs.Seats.{Seated}
use Rattle.node_actor.specs.Actor.{Acting}
use Rattle.node_actor.specs.Calls.{GoesWith, Stops, Fails, IsAgreed, IsTaken, disagrees, has_no_round, has_no_room, is_worn}
use Rattle.node_actor.specs.EventLists.{behind}
use Rattle.node_actor.specs.Heard.{heard_in}
use Rattle.node_actor.specs.Rounds.{Look, AllAgree, PostsNone, Walks, SaysAll, SaysSome, FollowsAll, WaitsAll, RoundOf}
use Rattle.node_actor.specs.Rounds.{came, hearings, held_own, made_in, made_of, made_own}
use Rattle.node_actor.specs.Snapshots.{takes_no_log}
use Rattle.node_actor.specs.Views.{View, seen, moved_by, StandsFor}
use Rattle.node_actor.specs.declared.hearing.Hearing.{Hearing}

-- the seat's word counted one event more, and its view went on by it
abbrev pub OneOn : {B : Type 0} → (B → B → Bool) → ℕ → Event B → Seated B → Seated B → Type 0
OneOn same members e s t = (t.part.events ≡ suc s.part.events) × (seen t ≡ moved_by same members (Some e) (seen s))

-- what an event makes of the seat, by what its call returns
abbrev pub SeatGoes : {B Y : Type 0} → (B → B → Bool) → ℕ → Event B → Seated B → Seated B → Result (Vec Y Global) (ActorFault Y) → Type 0
SeatGoes same members e s t (Ok says) = OneOn same members e s t
SeatGoes same members e s t (Err (LostHere says)) = OneOn same members e s t
SeatGoes same members e s t (Err Memory) = (t ≡ s) ⊎ OneOn same members e s t
SeatGoes same members e s t (Err _) = t ≡ s

module _ {B S Y M K : Type 0} (same : B → B → Bool) (steps : Steps B S Y) (content : M → S) (loaded : List ℕ → Option S)
    (holds : K → Rows B → Type 0) (finds : K → Rows B → Type 0) (failures : K → ℕ) where
  -- one event was made, and said this
  pub record MadeOne (e : Event B) (old new : Acting B M K) (more : List Y) : Type 0 where
    pub agreed : IsAgreed same steps content loaded holds finds failures (Some e) old old.seat
    pub goes : GoesWith same steps content loaded holds finds failures [] (Some e) old new old.seat more
    pub seat : OneOn same old.node.members e old.seat new.seat

  -- one event of a round, by what its call returns: what it makes of the actor, and of what was said. One for which no round is left is passed
  -- over
  abbrev pub MakesOne : Event B → Acting B M K → Acting B M K → List Y → List Y → Result (Unit {0}) (ActorFault Y) → Type 0
  MakesOne e old new was now (Ok _) =
      (new.spoiled ≡ false)
      × (((has_no_round (Some e) (seen old.seat).node ≡ true) × (new ≡ old) × (now ≡ was))
      ⊎ ((more : List Y) × MadeOne e old new more × ((moved_by same old.node.members (Some e) (seen old.seat)).node.up ≡ true)
      × (now ≡ was ++ more)))
  MakesOne e old new was now (Err Full) = (has_no_room same (Some e) (seen old.seat).node ≡ true) × (new ≡ old) × (now ≡ was)
  MakesOne e old new was now (Err (Keeper fault)) =
      (new.spoiled ≡ true) × IsAgreed same steps content loaded holds finds failures (Some e) old old.seat
      × Fails same steps content loaded holds finds failures (Some e) old new old.seat fault × (new.seat ≡ old.seat) × (now ≡ was)
  MakesOne e old new was now (Err (LostHere says)) =
      (new.spoiled ≡ true) × (says.items ≡ [])
      × ((more : List Y) × MadeOne e old new more × ((moved_by same old.node.members (Some e) (seen old.seat)).node.up ≡ false)
      × (now ≡ was ++ more))
  MakesOne e old new was now (Err Disagree) =
      (new.spoiled ≡ true)
      × ((disagrees same old.node.members (Some e) (seen old.seat).node || takes_no_log same old.node.members loaded (Some e) (seen old.seat).node)
      ≡ true)
      × Stops same steps content loaded holds finds failures None old new old.seat × (new.seat ≡ old.seat) × (now ≡ was)
      × IsTaken same steps content loaded holds finds failures (Some e) old old.seat
  MakesOne e old new was now (Err Worn) =
      (new.spoiled ≡ true) × (is_worn (Some e) old.seat ≡ true)
      × Stops same steps content loaded holds finds failures None old new old.seat × (new.seat ≡ old.seat) × (now ≡ was)
      × IsTaken same steps content loaded holds finds failures (Some e) old old.seat
  MakesOne e old new was now (Err Memory) =
      (new.spoiled ≡ true) × StandsFor new new.seat × (is_worn (Some e) old.seat ≡ false)
      × ((new.seat ≡ old.seat) ⊎ OneOn same old.node.members e old.seat new.seat)
      × holds new.keeper (seen new.seat).node.rows × (now ≡ was) × IsTaken same steps content loaded holds finds failures (Some e) old old.seat
  MakesOne e old new was now (Err Failed) = ⊥
  MakesOne e old new was now (Err Rounds) = ⊥

  -- a round is under way: the actor went from an old one, at a view, to this one, at another, by these events and looks; all was said, and
  -- nothing is posted yet
  pub record Under (old : Acting B M K) (v : View B) (made : List (Event B)) (looks : List (Look B)) (said : List Y) (now : Acting B M K) (w : View B)
      : Type 0 where
    pub me : now.node.me ≡ old.node.me
    pub members : now.node.members ≡ old.node.members
    pub fresh : now.spoiled ≡ false
    pub walks : Walks same steps content loaded holds finds failures made looks old now v w
    pub agree : AllAgree same old.node.members loaded made (seen v)
    pub says : SaysAll same steps content loaded holds finds failures made old v said
    pub follows : FollowsAll same steps content loaded holds finds failures made old now v
    pub waits : WaitsAll same steps content loaded holds finds failures made old now v
    pub posts : (k : ℕ) → IsPeer old.node.me old.node.members k → PostsNone k v w
    pub rows : holds now.keeper (seen w).node.rows
    pub counts : failures old.keeper ≤ failures now.keeper

  -- a fault has ended the round with these own events of an old actor, at a view; what was said is behind a start
  abbrev pub Ended : List (Event B) → Acting B M K → View B → List Y → Acting B M K → List Y → ActorFault Y → Type 0
  Ended own old v start now says fault =
      (said : List Y) × (says ≡ start ++ said) × RoundOf same steps content loaded holds finds failures own old now v said (Err fault)

  -- the commit of these events failed: they are not made, and the store finds the rows of before or those after them
  pub record FailsAll (es : List (Event B)) (old new : Acting B M K) (fault : KeeperFault) : Type 0 where
    pub me : new.node.me ≡ old.node.me
    pub members : new.node.members ≡ old.node.members
    pub stands : StandsFor new new.seat
    pub seat : new.seat ≡ old.seat
    pub waits : new.waiting ≡ old.waiting
    pub log : new.log ≡ old.log
    pub agree : AllAgree same old.node.members loaded es (seen old.seat)
    pub some : 0 < length es
    pub found : (x : Rows B) → finds new.keeper x
        → (x ≡ (seen old.seat).node.rows) ⊎ (x ≡ (behind same old.node.members es (seen old.seat)).node.rows)
    pub cause : fault ≡ store.Store → failures old.keeper < failures new.keeper

  -- they are committed and their steps taken, and memory ran out for what the machine was to say
  pub record StopsAll (es : List (Event B)) (old new : Acting B M K) (more : List Y) : Type 0 where
    pub me : new.node.me ≡ old.node.me
    pub members : new.node.members ≡ old.node.members
    pub walks : Walks same steps content loaded holds finds failures es [] old new old.seat new.seat
    pub posts : (k : ℕ) → IsPeer old.node.me old.node.members k → PostsNone k old.seat new.seat
    pub says : SaysSome same steps content loaded holds finds failures es old old.seat more
    pub rows : holds new.keeper (seen new.seat).node.rows

  -- a round in its midst: it has come to these events, of which the last ones are tried and not committed; the actor is the one before these. What was
  -- said is behind a start
  pub record Heads (old : Acting B M K) (v : View B) (start : List Y) (all tried : List (Event B)) (looks : List (Look B)) (now : Acting B M K)
      (says : List Y) : Type 0 where
    pub made : List (Event B)
    pub said : List Y
    pub under : Under old v made looks said now now.seat
    pub all_are : all ≡ made ++ tried
    pub are : says ≡ start ++ said

  -- what the round is to make after them, of which an event that is not refused is the first
  pub record IsNext (e : Event B) (own all rest : List (Event B)) (looks : List (Look B)) (old : Acting B M K) (v : View B) : Type 0 where
    pub due : all ++ rest ≡ made_in same old.node.members old.node.me own (came looks) (seen v)
    pub first : has_no_round (Some e) (behind same old.node.members all (seen v)).node ≡ false
        → has_no_room same (Some e) (behind same old.node.members all (seen v)).node ≡ false
        → (left : List (Event B)) × (rest ≡ e ∷ left)

  -- one event of a round, by what its call returns: it is made or tried, or passed over for want of a round; or it comes back for want of room; or a
  -- fault has ended the round
  abbrev pub MakesNext : Event B → List (Event B) → Acting B M K → View B → List Y → List (Event B) → List (Look B) → List (Event B) → Acting B M K
      → List Y → Result (Option (Event B)) (ActorFault Y) → Type 0
  MakesNext e own old v start all looks tried now says (Ok None) =
      ((has_no_round (Some e) (behind same old.node.members all (seen v)).node ≡ true) × Heads old v start all tried looks now says)
      ⊎ ((has_no_round (Some e) (behind same old.node.members all (seen v)).node ≡ false)
      × (has_no_room same (Some e) (behind same old.node.members all (seen v)).node ≡ false)
      × Heads old v start (all ++ e ∷ []) tried looks now says)
  MakesNext e own old v start all looks tried now says (Ok (Some back)) =
      (back ≡ e) × (has_no_room same (Some e) (behind same old.node.members all (seen v)).node ≡ true) × Heads old v start all tried looks now says
  MakesNext e own old v start all looks tried now says (Err fault) = Ended own old v start now says fault

  -- the own events of a round, before any look: all are made, tried or passed over, up to those that are held back
  abbrev pub MakesOwn : List (Event B) → Acting B M K → List Y → List (Event B) → Acting B M K → List Y → Result (Unit {0}) (ActorFault Y)
      → List (Event B) → Type 0
  MakesOwn own old start tried now says (Ok _) held =
      Heads old old.seat start (made_own same old.node.members own (seen old.seat).node) tried [] now says
      × (held ≡ held_own same old.node.members own (seen old.seat).node)
  MakesOwn own old start tried now says (Err fault) held = Ended own old old.seat start now says fault

  -- the packets of a round: it began with an actor, at a view, and these own events. Looks were made at these members; of what came in them these
  -- packets of one member are left, and what the others showed is noted
  pub record Amid (own : List (Event B)) (old : Acting B M K) (v : View B) (start : List Y) (at : List ℕ) (from : ℕ) (left : List (Packet B))
      (tried : List (Event B)) (now : Acting B M K) (says : List Y) (noted : List Hearing) : Type 0 where
    pub fresh : old.spoiled ≡ false
    pub up : (seen v).node.up ≡ true
    pub all : List (Event B)
    pub looks : List (Look B)
    pub heads : Heads old v start all tried looks now says
    pub due : all ++ made_of same old.node.members old.node.me left (behind same old.node.members all (seen v)).node
        ≡ made_in same old.node.members old.node.me own (came looks) (seen v)
    pub shown : noted ++ map (λ p. record { from = from; heard = heard_in p.kind }) left ≡ hearings looks
    pub tried_at : (k : ℕ) → Has at k → Has (map (λ l. l.0) looks) k

  -- events that were tried are made: all of them, in one commit, by what the call returns that commits them
  abbrev pub MakesAll : List (Event B) → Acting B M K → Acting B M K → List Y → List Y → Result (Unit {0}) (ActorFault Y) → Type 0
  MakesAll es old new was now (Ok _) = (more : List Y) × (now ≡ was ++ more) × Under old old.seat es [] more new new.seat
  MakesAll es old new was now (Err (Keeper fault)) = (new.spoiled ≡ true) × (now ≡ was) × FailsAll es old new fault
  MakesAll es old new was now (Err Memory) =
      (new.spoiled ≡ true) × ((more : List Y) × (now ≡ was ++ more) × StopsAll es old new more)
  MakesAll es old new was now (Err _) = ⊥
