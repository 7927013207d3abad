-- A round of an actor: events of its own, and after them packets of the other members, one after another, each an event of the core; at its end what
-- they sent is posted, as far as boxes are empty (docs/ARCHITECTURE.md, "Threads").
use Rattle.std.specs.Prelude.{◌≡◌, ◌⊎◌, ◌<◌, ◌≤◌, ℕ, ◌+◌, ◌^◌, ◌==◌, ◌&&◌, ◌||◌, nat_lt, not, Bool, true, false, Option, Some, None}
use Rattle.std.specs.Prelude.{Result, Ok, Err, List, [], ◌∷◌, ◌++◌, filter, map, length, if◌then◌else◌}
use Rattle.std.specs.declared.vec.Vec.{Vec}
use Rattle.std.specs.declared.alloc.Global.{Global}
use Rattle.circular_buffer.specs.Buffer.{keep_last}
use Rattle.cluster_world.specs.Has.{Has}
use Rattle.paxos_packets.specs.Members.{is_in}
use Rattle.paxos_packets.specs.declared.entry.Entry.{Entry}
use Rattle.paxos_packets.specs.declared.packet.Packet.{Packet}
use Rattle.paxos_packets.specs.declared.rows.Rows.{Rows}
use Rattle.store_keeper.specs.declared.fault.KeeperFault.{KeeperFault}
use Rattle.store_keeper.specs.declared.fault.KeeperFault.TheVariants as store
use Rattle.replica_machine.specs.Log.{IsLogOf, machine_from}
use Rattle.replica_machine.specs.Replay.{Steps}
use Rattle.actor_outboxes.specs.Outboxes.{IsPeer, due_of, most_waiting, to, waiting}
use Rattle.paxos_node.specs.declared.event.Event.{Event}
use Rattle.paxos_node.specs.declared.event.Event.TheVariants.{Deliver}
use Rattle.paxos_node.specs.Events.{outcome_of, is_round_refused, is_full_refused}
use Rattle.paxos_node.specs.View.{Viewed}
use Rattle.paxos_planning.specs.Node.{NodeState}
use Rattle.actor_parts.specs.declared.fault.ActorFault.{ActorFault}
use Rattle.actor_parts.specs.declared.fault.ActorFault.TheVariants.{Failed, Rounds, Full, Keeper, Disagree, LostHere, Worn, Memory}
use Rattle.actor_parts.specs.Parts.{IsPrefixOf, is_late}
use Rattle.mail_table.specs.Seats.{knows}
use Rattle.mail_table.specs.Views.{box_of, lost, receiving_all}
use Rattle.mail_table.specs.declared.part.Part.{Part}
use Rattle.node_actor.specs.Actor.{Acting}
use Rattle.node_actor.specs.Calls.{disagrees}
use Rattle.node_actor.specs.EventLists.{behind, sent_in, said_in, under_in, TakeLogs}
use Rattle.node_actor.specs.Heard.{heard_in}
use Rattle.node_actor.specs.Snapshots.{Logs, takes_no_log}
use Rattle.node_actor.specs.Turns.{Beside, StaysTo, tries_at, tries_to}
use Rattle.node_actor.specs.Views.{View, seen, is_for, posted_to, moved_by, StandsFor}
use Rattle.node_actor.specs.declared.hearing.Hearing.{Hearing}

-- what a round makes of its own events, and of the packets that came

-- a packet that a round hands to its node: it is for it, from another member, and not late
abbrev pub is_treated : {B : Type 0} → ℕ → ℕ → Packet B → NodeState B → Bool
is_treated me members p x = is_for me members p && not (is_late p x)

-- an own event among those that are made, unless no round is left for it; from one for which there is no room on none is made
abbrev pub with_event : {B : Type 0} → Bool → Bool → Event B → List (Event B) → List (Event B)
with_event no_round no_room e made = if no_round then made else (if no_room then [] else e ∷ made)

-- an own event and those after it if they are held back, since there is no room for it; else those of the later ones that are
abbrev pub held_from : {B : Type 0} → Bool → Bool → List (Event B) → List (Event B) → List (Event B)
held_from no_round no_room es held = if not no_round && no_room then es else held

module _ {B : Type 0} (same : B → B → Bool) (members : ℕ) where
  -- the node after an own event; one for which no round is left changes nothing
  abbrev pub after_own : Event B → NodeState B → NodeState B
  after_own e x = if is_round_refused e x then x else (outcome_of same members e x).node

  -- of own events those that are made, and those that are held back
  abbrev pub made_own : List (Event B) → NodeState B → List (Event B)
  made_own [] x = []
  made_own (e ∷ es) x = with_event (is_round_refused e x) (is_full_refused same e x) e (made_own es (after_own e x))

  abbrev pub held_own : List (Event B) → NodeState B → List (Event B)
  held_own [] x = []
  held_own (e ∷ es) x = held_from (is_round_refused e x) (is_full_refused same e x) (e ∷ es) (held_own es (after_own e x))

  -- the node after a packet that came, and of packets that came the events that are made
  abbrev pub after_packet : ℕ → Packet B → NodeState B → NodeState B
  after_packet me p x = if is_treated me members p x then (outcome_of same members (Deliver p) x).node else x

  abbrev pub made_of : ℕ → List (Packet B) → NodeState B → List (Event B)
  made_of me [] x = []
  made_of me (p ∷ ps) x = (if is_treated me members p x then Deliver p ∷ [] else []) ++ made_of me ps (after_packet me p x)

  -- the events that a round makes which nothing ends: the own ones, and then those of the packets that came
  abbrev pub made_in : ℕ → List (Event B) → List (Packet B) → Viewed B → List (Event B)
  made_in me own packets s = made_own own s.node ++ made_of me packets (behind same members (made_own own s.node) s).node

  -- no event among these disagrees with what the node learned, or brings a snapshot of which no log is made
  abbrev pub AllAgree : {S : Type 0} → (List ℕ → Option S) → List (Event B) → Viewed B → Type 0
  AllAgree loaded [] s = Unit {0}
  AllAgree loaded (e ∷ es) s =
      (disagrees same members (Some e) s.node ≡ false) × (takes_no_log same members loaded (Some e) s.node ≡ false)
      × AllAgree loaded es (moved_by same members (Some e) s)

-- looks into boxes

-- a try to fetch from a member, and the packets that came, if it won
abbrev pub Look : Type 0 → Type 0
Look B = ℕ × Option (List (Packet B))

abbrev pub look_at : {B : Type 0} → ℕ → ℕ → Option (List (Packet B)) → Part B → Part B
look_at n k None x = lost (box_of n k x.me) x
look_at n k (Some ps) x = receiving_all (box_of n k x.me) ps x

-- the part after looks, one after another; and the packets that came in them
abbrev pub looked : {B : Type 0} → ℕ → List (Look B) → Part B → Part B
looked n [] x = x
looked n (l ∷ ls) x = looked n ls (look_at n l.0 l.1 x)

abbrev pub found_in : {B : Type 0} → Option (List (Packet B)) → List (Packet B)
found_in None = []
found_in (Some ps) = ps

abbrev pub came : {B : Type 0} → List (Look B) → List (Packet B)
came [] = []
came (l ∷ ls) = found_in l.1 ++ came ls

-- from which member each came, and what it shows
abbrev pub hearings : {B : Type 0} → List (Look B) → List Hearing
hearings [] = []
hearings (l ∷ ls) = map (λ p. record { from = l.0; heard = heard_in p.kind }) (found_in l.1) ++ hearings ls

-- the tries at a box out of which a node takes
abbrev pub tries_from : {B : Type 0} → ℕ → Part B → ℕ → List Bool
tries_from n x k = tries_at (box_of n k x.me) x.tried

-- posts at the end of a round

-- all that waits for a peer once what a round has sent waits behind what waited
abbrev pub waits_behind : {B M K : Type 0} → ℕ → List (Packet B) → Acting B M K → List (Packet B)
waits_behind k sent old = keep_last most_waiting (waiting k old.waiting ++ to k sent)

-- what one try makes of all that waits for a peer: nothing does, and there is no try; or the oldest, at least one, wait no longer, and those of them
-- that are due are posted together; or the try is lost, and all wait, but for what is not due of the oldest
pub data PostsAll {B M K : Type 0} (k : ℕ) (won : Bool) (all : List (Packet B)) (new : Acting B M K) (v w : View B) : Type 0 where
  none_due : won ≡ false → all ≡ [] → waiting k new.waiting ≡ [] → posted_to k w ≡ posted_to k v → tries_to k w ≡ tries_to k v
      → PostsAll k won all new v w
  batch_won : (p : Packet B) (more rest : List (Packet B)) → won ≡ true → all ≡ (p ∷ more) ++ rest → waiting k new.waiting ≡ rest
      → posted_to k w ≡ posted_to k v ++ due_of (p ∷ more) → tries_to k w ≡ tries_to k v ++ true ∷ [] → PostsAll k won all new v w
  batch_lost : (p : Packet B) (more rest : List (Packet B)) → won ≡ false → all ≡ (p ∷ more) ++ rest
      → waiting k new.waiting ≡ due_of (p ∷ more) ++ rest → posted_to k w ≡ posted_to k v → tries_to k w ≡ tries_to k v ++ false ∷ []
      → PostsAll k won all new v w

-- there was one try to post what waited for this node together, if anything did; and whether it won, as to a peer alone. There was none to fetch
pub record PostsTogether {B M K : Type 0} (peer : ℕ) (won : Bool) (old new : Acting B M K) (v w : View B) : Type 0 where
  pub beside : Beside old new v w
  pub there : IsPeer old.node.me old.node.members peer → PostsAll peer won (waiting peer old.waiting) new v w
  pub to_peer : won ≡ true → IsPeer old.node.me old.node.members peer
  pub others : (k : ℕ) → IsPeer old.node.me old.node.members k → (k ≡ peer → ⊥) → StaysTo k old new v w
  pub fetched : (k : ℕ) → IsPeer old.node.me old.node.members k → tries_from old.node.members w.part k ≡ tries_from old.node.members v.part k

-- for each peer for which packets waited, there was one try to post them together; and the set of the peers to which some were posted. There was no
-- try to fetch
pub record PostsEach {B M K : Type 0} (set : List Bool) (old new : Acting B M K) (v w : View B) : Type 0 where
  pub beside : Beside old new v w
  pub each : (k : ℕ) → IsPeer old.node.me old.node.members k → PostsAll k (is_in set k) (waiting k old.waiting) new v w
  pub others : (k : ℕ) → (IsPeer old.node.me old.node.members k → ⊥) → is_in set k ≡ false
  pub fetched : (k : ℕ) → IsPeer old.node.me old.node.members k → tries_from old.node.members w.part k ≡ tries_from old.node.members v.part k

-- nothing was posted to a peer, or tried at its box
pub record PostsNone {B : Type 0} (k : ℕ) (v w : View B) : Type 0 where
  pub posted : posted_to k w ≡ posted_to k v
  pub tries : tries_to k w ≡ tries_to k v

-- what a round makes of an actor and a view

module _ {B S Y M K : Type 0} (same : B → B → Bool) (steps : Steps B S Y) (content : M → S) (loaded : List ℕ → Option S)
    (holds : K → Rows B → Type 0) (finds : K → Rows B → Type 0) (failures : K → ℕ) where
  -- the view went on by these events, one after another, and by these looks
  pub record Walks (made : List (Event B)) (looks : List (Look B)) (old new : Acting B M K) (v next : View B) : Type 0 where
    pub stands : StandsFor new next
    pub table : next ≡ knows next.part v
    pub me : next.part.me ≡ v.part.me
    pub moved : seen next ≡ behind same old.node.members made (seen v)
    pub received : next.part.received ≡ (looked old.node.members looks v.part).received
    pub tries : (k : ℕ) → IsPeer old.node.me old.node.members k
        → tries_from old.node.members next.part k ≡ tries_from old.node.members (looked old.node.members looks v.part) k
    pub events : next.part.events ≡ v.part.events + length made
    pub counted : 0 < length made → v.part.events + length made ≤ 2 ^ 62

  -- this is what they say, of whichever logs the snapshots are that the node takes over; or a first part of that; and the machine followed

  abbrev pub SaysAll : List (Event B) → Acting B M K → View B → List Y → Type 0
  SaysAll made old v said =
      (first : S) (under : List (Entry B)) (logs : Logs B) → IsLogOf steps content first under old.log
      → TakeLogs same old.node.members loaded (machine_from steps first) logs made (seen v)
      → said ≡ said_in same old.node.members (machine_from steps first) logs under made (seen v)

  abbrev pub SaysSome : List (Event B) → Acting B M K → View B → List Y → Type 0
  SaysSome made old v said =
      (first : S) (under : List (Entry B)) (logs : Logs B) → IsLogOf steps content first under old.log
      → TakeLogs same old.node.members loaded (machine_from steps first) logs made (seen v)
      → IsPrefixOf said (said_in same old.node.members (machine_from steps first) logs under made (seen v))

  abbrev pub FollowsAll : List (Event B) → Acting B M K → Acting B M K → View B → Type 0
  FollowsAll made old new v =
      (first : S) (under : List (Entry B)) (logs : Logs B) → IsLogOf steps content first under old.log
      → TakeLogs same old.node.members loaded (machine_from steps first) logs made (seen v)
      → IsLogOf steps content first (under_in same old.node.members logs under made (seen v)) new.log

  -- no fault ended the round: all that it had to make is made, each other member's box was looked into, and to each peer for which packets waited
  -- there was one try to post; and it shows to whom it posted, and what came
  pub record Rounded (own : List (Event B)) (old new : Acting B M K) (v : View B) (held : List (Event B)) (said : List Y) : Type 0 where
    pub next : View B
    pub looks : List (Look B)
    pub made : List (Event B)
    pub all : made ≡ made_in same old.node.members old.node.me own (came looks) (seen v)
    pub walks : Walks made looks old new v next
    pub agree : AllAgree same old.node.members loaded made (seen v)
    pub says : SaysAll made old v said
    pub follows : FollowsAll made old new v
    pub up : (seen next).node.up ≡ true
    pub rows : holds new.keeper (seen next).node.rows
    pub held_are : held ≡ held_own same old.node.members own (seen v).node
    pub each_looked : (k : ℕ) → IsPeer old.node.me old.node.members k → Has (map (λ l. l.0) looks) k
    pub posts : (k : ℕ) → IsPeer old.node.me old.node.members k
        → PostsAll k (is_in new.last.posted k) (waits_behind k (sent_in same old.node.members made (seen v)) old) new v next
    pub others : (k : ℕ) → (IsPeer old.node.me old.node.members k → ⊥) → is_in new.last.posted k ≡ false
    pub shown : new.last.came ≡ hearings looks

  -- a fault ended the round after these events, of those that it had to make, which are followed by the rest: nothing is posted
  pub record Breaks (own made rest : List (Event B)) (old new : Acting B M K) (v : View B) : Type 0 where
    pub next : View B
    pub looks : List (Look B)
    pub all : made ++ rest ≡ made_in same old.node.members old.node.me own (came looks) (seen v)
    pub walks : Walks made looks old new v next
    pub posts : (k : ℕ) → IsPeer old.node.me old.node.members k → PostsNone k v next

  -- what these events sent waits
  abbrev pub WaitsAll : List (Event B) → Acting B M K → Acting B M K → View B → Type 0
  WaitsAll made old new v =
      (k : ℕ) → IsPeer old.node.me old.node.members k
      → waiting k new.waiting ≡ waits_behind k (sent_in same old.node.members made (seen v)) old

  -- the node is down by the last of them
  pub record Loses (own : List (Event B)) (old new : Acting B M K) (v : View B) (said : List Y) : Type 0 where
    pub made : List (Event B)
    pub rest : List (Event B)
    pub breaks : Breaks own made rest old new v
    pub agree : AllAgree same old.node.members loaded made (seen v)
    pub waits : WaitsAll made old new v
    pub says : SaysAll made old v said
    pub follows : FollowsAll made old new v
    pub rows : holds new.keeper (seen breaks.next).node.rows
    pub up : (seen v).node.up ≡ true
    pub down : (seen breaks.next).node.up ≡ false

  -- the next event has this cause not to be made, at the view after those
  pub record Ends (cause : Event B → View B → Type 0) (own : List (Event B)) (old new : Acting B M K) (v : View B) (said : List Y) : Type 0 where
    pub made : List (Event B)
    pub event : Event B
    pub rest : List (Event B)
    pub breaks : Breaks own made (event ∷ rest) old new v
    pub agree : AllAgree same old.node.members loaded made (seen v)
    pub says : SaysAll made old v said
    pub rows : holds new.keeper (seen breaks.next).node.rows
    pub is_cause : cause event breaks.next

  abbrev pub IsOther : ℕ → Event B → View B → Type 0
  IsOther members e w = (disagrees same members (Some e) (seen w).node || takes_no_log same members loaded (Some e) (seen w).node) ≡ true

  abbrev pub IsWorn : Event B → View B → Type 0
  IsWorn e w = nat_lt w.part.events (2 ^ 62) ≡ false

  -- memory ran out: rows and view are those after these events, and of what they say a first part was said
  pub record Stops (own : List (Event B)) (old new : Acting B M K) (v : View B) (said : List Y) : Type 0 where
    pub made : List (Event B)
    pub rest : List (Event B)
    pub breaks : Breaks own made rest old new v
    pub says : SaysSome made old v said
    pub rows : holds new.keeper (seen breaks.next).node.rows

  -- a commit failed: these events are made, and those that were tried are not; the store finds the rows after the first, or those after both. It
  -- says that it failed only if it did
  pub record Fails (own : List (Event B)) (old new : Acting B M K) (v : View B) (said : List Y) (fault : KeeperFault) : Type 0 where
    pub made : List (Event B)
    pub tried : List (Event B)
    pub rest : List (Event B)
    pub breaks : Breaks own made (tried ++ rest) old new v
    pub agree : AllAgree same old.node.members loaded (made ++ tried) (seen v)
    pub waits : WaitsAll made old new v
    pub says : SaysAll made old v said
    pub follows : FollowsAll made old new v
    pub some : 0 < length tried
    pub found : (x : Rows B) → finds new.keeper x
        → (x ≡ (seen breaks.next).node.rows) ⊎ (x ≡ (behind same old.node.members tried (seen breaks.next)).node.rows)
    pub cause : fault ≡ store.Store → failures old.keeper < failures new.keeper

  -- all that may come of a round with these own events, in which this was said
  abbrev pub RoundOf : List (Event B) → Acting B M K → Acting B M K → View B → List Y → Result (Vec (Event B) Global) (ActorFault Y) → Type 0
  RoundOf own old new v said (Ok held) = (old.spoiled ≡ false) × (new.spoiled ≡ false) × Rounded own old new v held.items said
  RoundOf own old new v said (Err Failed) = (old.spoiled ≡ true) × (new ≡ old) × (said ≡ [])
  RoundOf own old new v said (Err (Keeper fault)) = (old.spoiled ≡ false) × (new.spoiled ≡ true) × Fails own old new v said fault
  RoundOf own old new v said (Err (LostHere says)) =
      (old.spoiled ≡ false) × (new.spoiled ≡ true) × (says.items ≡ []) × Loses own old new v said
  RoundOf own old new v said (Err Disagree) =
      (old.spoiled ≡ false) × (new.spoiled ≡ true) × Ends (IsOther old.node.members) own old new v said
  RoundOf own old new v said (Err Worn) = (old.spoiled ≡ false) × (new.spoiled ≡ true) × Ends IsWorn own old new v said
  RoundOf own old new v said (Err Memory) = (old.spoiled ≡ false) × (new.spoiled ≡ true) × Stops own old new v said
  RoundOf own old new v said (Err Rounds) = ⊥
  RoundOf own old new v said (Err Full) = ⊥
