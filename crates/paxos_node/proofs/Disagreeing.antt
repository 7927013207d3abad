-- Whether an event disagrees with what was learned: by what its packet brings, or by what the node votes for in it.
use Rattle.std.proofs.Common.{◌≡◌, ℕ, suc, Bool, true, false, cond, not, ◌&&◌, ◌||◌, Result, Ok, Err, Option, Some, None, [], ◌∷◌, ◌++◌, refl, ap, ◌∙◌}
use Rattle.std.specs.Prelude.{IfOk, is_none, nat_le}
use Rattle.paxos_packets.specs.Body.{IsEquality}
use Rattle.paxos_packets.specs.declared.entry.Entry.{Entry}
use Rattle.paxos_packets.specs.declared.packet.Kind.{Kind}
use Rattle.paxos_packets.specs.declared.packet.Kind.TheVariants.{Prepare, Promise, Accept, Accepted, Nack, Forward, Learned, Ask, Snapshot}
use Rattle.paxos_packets.specs.Snapshot as taken
use Rattle.paxos_packets.specs.Packet.{packet}
use Rattle.paxos_learner.specs.Learner.{vote_disagrees}
use Rattle.paxos_planning.specs.Ticking.{again}
use Rattle.paxos_acceptor.specs.Acceptor.{may_promise, may_accept, promise_of, given_by}
use Rattle.paxos_proposer.specs.Proposer.{new_ballot}
use Rattle.replica_machine.specs.declared.head.Head.{Head}
use Rattle.replica_machine.specs.Snapshot.{head_at}
use Rattle.paxos_planning.specs.Node.{NodeState, Plan, log_length}
use Rattle.paxos_planning.specs.Plan.{begun, send, with_pending, promise}
use Rattle.paxos_planning.specs.Proposals.{push}
use Rattle.paxos_planning.specs.Walking.{proposes_other}
use Rattle.paxos_planning.proofs.LeaderVotes.{push_is, forward_is, promise_is}
use Rattle.paxos_planning.specs.Replies.{saw, refuse, cast_or_show, answer_ask, on_packet, brings_other}
use Rattle.paxos_planning.specs.Starting.{starts, begin}
use Rattle.paxos_node.specs.declared.event.Event.{Event}
use Rattle.paxos_node.specs.declared.event.Event.TheVariants.{Take, Tick, Start, Suspect, Deliver, Cut, Crash, Restart}
use Rattle.paxos_node.specs.declared.fault.NodeFault.{NodeFault}
use Rattle.paxos_node.specs.declared.fault.NodeFault.TheVariants.{Rounds, Full, Disagree, Memory}
use Rattle.paxos_node.specs.Snapshots.{rest_on, has_boot, take_in}
use Rattle.paxos_node.specs.Events.{owner, deliver, on_event, outcome_of, takes, new_item, with_item, has_room, new_lost, suspected}
use Rattle.paxos_node.specs.Plans.{Answers, finds_other, delivers_other, suspects_other, is_memory}
use Rattle.paxos_node.proofs.Ending.{settled_disagrees}

or_false : (b : Bool) → (b || false) ≡ b
or_false true = refl
or_false false = refl

module _ {B : Type 0} (same : B → B → Bool) (ok : IsEquality same) (members : ℕ) where
  packet_is : (me sender : ℕ) (k : Kind B) (x : NodeState B)
      → (on_packet same members me sender k (record (begun x) { node = saw k x })).disagrees ≡ brings_other same members me sender k x
  packet_is me sender (Prepare b first) x = go (may_promise x.rows.promised b)
    where
      o : Plan B
      o = record (begun x) { node = saw (Prepare b first) x }

      go : (t : Bool) → (cond t (send (packet me (promise_of o.node.rows b first) sender ∷ []) (promise b o)) (refuse me sender b o)).disagrees ≡ false
      go true = refl
      go false = refl
  packet_is me sender (Promise b floor votes) x =
      promise_is same ok members me sender b floor votes x.proposer.role (record (begun x) { node = saw (Promise b floor votes) x }) refl
  packet_is me sender (Accept v) x = go (may_accept x.rows.promised v.ballot)
    where
      o : Plan B
      o = record (begun x) { node = saw (Accept v) x }

      given : (s : Option taken.Snapshot) → (cast_or_show same members me sender s v o).disagrees
          ≡ is_none s && vote_disagrees same members me v x.learner
      given None = refl
      given (Some s) = refl

      go : (t : Bool)
          → (cond t (cast_or_show same members me sender (given_by x.rows.snapshot v.slot) v o) (refuse me sender v.ballot o)).disagrees
          ≡ t && (is_none (given_by x.rows.snapshot v.slot) && vote_disagrees same members me v x.learner)
      go true = given (given_by x.rows.snapshot v.slot)
      go false = refl
  packet_is me sender (Accepted v) x = refl
  packet_is me sender (Nack b q) x = refl
  packet_is me sender (Forward es) x = forward_is same ok members me es (record (begun x) { node = saw (Forward es) x }) refl
  packet_is me sender (Learned s e) x = refl
  packet_is me sender (Ask first) x = go (given_by x.rows.snapshot first)
    where
      go : (s : Option taken.Snapshot) → (answer_ask me sender first s (record (begun x) { node = saw (Ask first) x })).disagrees ≡ false
      go None = refl
      go (Some s) = refl
  packet_is me sender (Snapshot s) x = refl

  taken_is : (me : ℕ) (s : taken.Snapshot) (head : Option Head) (o : Plan B) → (take_in me s head o).disagrees ≡ (is_none head || o.disagrees)
  taken_is me s None o = refl
  taken_is me s (Some head) o = go (has_boot me o.node head)
    where
      go : (b : Bool) → (cond b o (rest_on true s o)).disagrees ≡ o.disagrees
      go true = refl
      go false = refl

  deliver_is : (me sender : ℕ) (k : Kind B) (x : NodeState B)
      → (deliver same members me sender k (record (begun x) { node = saw k x })).disagrees ≡ delivers_other same members me sender k x
  deliver_is me sender (Snapshot s) x = go (nat_le s.floor (log_length x))
    where
      o : Plan B
      o = record (begun x) { node = saw (Snapshot s) x }

      go : (b : Bool) → (cond b o (take_in me s (head_at s.octets) o)).disagrees ≡ (not b && is_none (head_at s.octets))
      go true = refl
      go false = taken_is me s (head_at s.octets) o ∙ or_false (is_none (head_at s.octets))
  deliver_is me sender k x = packet_is me sender k x

  event_is : (e : Event B) (x : NodeState B) → (on_event same members e (begun x)).disagrees ≡ finds_other same members (owner e) e x
  event_is (Take n t body) x = go (takes x)
    where
      o : Plan B
      o = record (begun x) { node = with_item n t body x }

      go : (b : Bool) → (cond b (push same members n o) (begun x)).disagrees
          ≡ cond b (proposes_other same members n (log_length x) x.learner x.proposer.role (x.pending ++ new_item n t body x ∷ [])) false
      go true = push_is same ok members n o refl
      go false = refl
  event_is (Tick n) x = push_is same ok members n (send (again members n x.proposer.role x.learner) (begun x)) refl
  event_is (Start n) x = go (starts n x)
    where
      go : (b : Bool) → (cond b (begin members n (new_ballot n x.rows.promised x.proposer) (suc (log_length x)) (begun x)) (begun x)).disagrees ≡ false
      go true = refl
      go false = refl
  event_is (Suspect n other) x = go (new_lost same n other x)
    where
      room : (lost : Entry B) (b : Bool)
          → (cond b (push same members n (record (begun x) { node = with_pending (x.pending ++ lost ∷ []) x })) (begun x)).disagrees
          ≡ cond b (proposes_other same members n (log_length x) x.learner x.proposer.role (x.pending ++ lost ∷ [])) false
      room lost true = push_is same ok members n (record (begun x) { node = with_pending (x.pending ++ lost ∷ []) x }) refl
      room lost false = refl

      go : (l : Option (Entry B)) → (suspected same members n l (begun x)).disagrees ≡ suspects_other same members n l x
      go None = refl
      go (Some lost) = room lost (has_room x)
  event_is (Deliver q) x = deliver_is q.addressee q.sender q.kind x
  event_is (Cut n None) x = refl
  event_is (Cut n (Some s)) x = refl
  event_is (Crash n) x = refl
  event_is (Restart n) x = refl

  other_is : (me : ℕ) (e : Event B) (x : NodeState B) → owner e ≡ me
      → (outcome_of same members e x).disagrees ≡ finds_other same members me e x
  other_is me e x own =
      settled_disagrees (owner e) (on_event same members e (begun x)) ∙ event_is e x ∙ ap (λ (k : ℕ). finds_other same members k e x) own

  -- what is returned in its place

  pub answers_other : {A : Type 0} (me : ℕ) (e : Event B) (x : NodeState B) (r : Result A NodeFault) → owner e ≡ me
      → (rounds full : Bool) (P : A → Type 0) → Answers rounds full (outcome_of same members e x).disagrees P r
      → Answers rounds full (outcome_of same members e x).disagrees P (cond (is_memory r && finds_other same members me e x) (Err Disagree) r)
  answers_other {A} me e x r own rounds full P a = of r a
    where
      named : (h : Bool) → finds_other same members me e x ≡ h → rounds ≡ false → full ≡ false
          → Answers rounds full (outcome_of same members e x).disagrees P (cond h (Err Disagree) (Err Memory))
      named true q f g = (f, g, other_is me e x own ∙ q)
      named false q f g = (f, g)

      of : (s : Result A NodeFault) → Answers rounds full (outcome_of same members e x).disagrees P s
          → Answers rounds full (outcome_of same members e x).disagrees P (cond (is_memory s && finds_other same members me e x) (Err Disagree) s)
      of (Ok y) b = b
      of (Err Rounds) b = b
      of (Err Full) b = b
      of (Err Disagree) b = b
      of (Err Memory) b = named (finds_other same members me e x) refl b.0 b.1

  pub memory_is_last : {A : Type 0} (me : ℕ) (e : Event B) (x : NodeState B) (r : Result A NodeFault) → owner e ≡ me
      → ◌≡◌ {A = Result A NodeFault} (cond (is_memory r && finds_other same members me e x) (Err Disagree) r) (Err Memory)
      → (outcome_of same members e x).disagrees ≡ false
  memory_is_last {A} me e x r own m = other_is me e x own ∙ of r m
    where
      bare : (h : Bool) → ◌≡◌ {A = Result A NodeFault} (cond h (Err Disagree) (Err Memory)) (Err Memory) → h ≡ false
      bare true q = absurd (cc)
      bare false q = refl

      of : (s : Result A NodeFault) → ◌≡◌ {A = Result A NodeFault} (cond (is_memory s && finds_other same members me e x) (Err Disagree) s) (Err Memory)
          → finds_other same members me e x ≡ false
      of (Ok y) q = absurd (cc)
      of (Err Rounds) q = absurd (cc)
      of (Err Full) q = absurd (cc)
      of (Err Disagree) q = absurd (cc)
      of (Err Memory) q = bare (finds_other same members me e x) q

-- a fault in its place has no outcome
pub ok_stays : {A : Type 0} (P : A → Type 0) (b : Bool) (r : Result A NodeFault) → IfOk r P → IfOk (cond b (Err Disagree) r) P
ok_stays P true r h = tt
ok_stays P false r h = h
