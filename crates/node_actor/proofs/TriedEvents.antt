-- Events that were tried are made: what they make of the seat, what they send, and what the machine says of them.
use Rattle.std.proofs.Common.{◌≡◌, ℕ, suc, ◌+◌, Bool, true, false, List, [], ◌∷◌, ◌++◌, length, ap, sym, ◌∙◌, refl, arith}
use Rattle.std.proofs.Common.{Option, Some, None}
use Rattle.std.specs.Prelude.{is_some}
use Rattle.std.proofs.lemmas.List.{append_assoc}
use Rattle.cluster_world.specs.Has.{Has, here, there}
use Rattle.cluster_world.specs.MemberSnapshots.{log_from, taken_over, under_from}
use Rattle.paxos_packets.specs.Snapshot as taken
use Rattle.paxos_packets.specs.declared.entry.Entry.{Entry}
use Rattle.paxos_packets.specs.declared.rows.Rows.{Rows}
use Rattle.paxos_node.specs.Events.{outcome_of, owner, packet_in}
use Rattle.paxos_node.specs.View.{Viewed}
use Rattle.paxos_node.specs.declared.event.Event.{Event}
use Rattle.paxos_node.specs.declared.view.Opened.TheVariants.{With}
use Rattle.paxos_planning.specs.Node.{NodeState}
use Rattle.replica_machine.specs.Replay.{Machine}
use Rattle.actor_parts.specs.Handing.{handed_out}
use Rattle.actor_parts.specs.Snapshots.{is_no_log}
use Rattle.actor_parts.specs.Tried.{AreTried, IsTried, events_in, heard_of, node_behind, packets_in}
use Rattle.actor_parts.specs.declared.tried.Tried.{Tried}
use Rattle.mail_table.specs.Boxes.{Received}
use Rattle.mail_table.specs.Seats.{Seated}
use Rattle.mail_table.specs.Views.{moving}
use Rattle.mail_table.specs.declared.part.Part.{Part}
use Rattle.node_actor.specs.EventLists.{behind, sent_in, said_in, under_in}
use Rattle.node_actor.specs.Posts.{advanced_all, advanced_by, AreSteps}
use Rattle.node_actor.specs.Rounds.{AllAgree}
use Rattle.node_actor.specs.Snapshots.{Logs, handed_by, log_at, log_before, under_after}
use Rattle.node_actor.specs.Turns.{StaysAt}
use Rattle.node_actor.specs.Views.{moved_by, seen}
use Rattle.node_actor.proofs.Viewing.{owner_is, possible_is}

-- without a snapshot

from_none : {B : Type 0} (b : Bool) (o : Option taken.Snapshot) (under over applied : List (Entry B)) → o ≡ None
    → log_from b o under over applied ≡ under ++ applied
from_none true None under over applied e = refl
from_none true (Some s) under over applied e = cc
from_none false o under over applied e = refl

under_none : {B : Type 0} (b : Bool) (o : Option taken.Snapshot) (under over applied : List (Entry B)) → o ≡ None
    → under_from b o under over applied ≡ under
under_none b None under over applied e = refl
under_none true (Some s) under over applied e = cc
under_none false (Some s) under over applied e = cc

none_taken : {S : Type 0} (loaded : List ℕ → Option S) (b : Bool) (o : Option taken.Snapshot) → o ≡ None
    → is_no_log loaded (taken_over b o) ≡ false
none_taken loaded true None e = refl
none_taken loaded true (Some s) e = cc
none_taken loaded false o e = refl

-- there are as many events
pub as_many : {B : Type 0} (ts : List (Tried B)) → length (events_in ts) ≡ length ts
as_many [] = refl
as_many (t ∷ ts) = ap suc (as_many ts)

module _ {B : Type 0} (same : B → B → Bool) (me n : ℕ) where
  -- the node that the view shows after them is the one that they lead to
  pub node_after : (ts : List (Tried B)) (s : Viewed B) → (behind same n (events_in ts) s).node ≡ node_behind same me n ts s.node
  node_after [] s = refl
  node_after (t ∷ ts) s = node_after ts (moved_by same n (Some t.event) s)

  -- each agrees, and takes over no snapshot
  pub agree_tried : {S : Type 0} (loaded : List ℕ → Option S) (ts : List (Tried B)) (s : Viewed B) → AreTried same me n ts s.node
      → AllAgree same n loaded (events_in ts) s
  agree_tried loaded [] s h = tt
  agree_tried loaded (t ∷ ts) s h = (
    h.0.agrees,
    none_taken loaded (is_some (packet_in t.event)) (outcome_of same n t.event s.node).change.snapshot h.0.no_snapshot,
    agree_tried loaded ts (moved_by same n (Some t.event) s) h.1,
  )

  -- what they send
  pub sent_tried : (ts : List (Tried B)) (s : Viewed B) → AreTried same me n ts s.node → packets_in ts ≡ sent_in same n (events_in ts) s
  sent_tried [] s h = refl
  sent_tried (t ∷ ts) s h =
      let one = h.0.packets in
      let rest = sent_tried ts (moved_by same n (Some t.event) s) h.1 in
      λ i. one i ++ rest i

  -- the log up to the floor stays
  pub under_tried : (logs : Logs B) (under : List (Entry B)) (ts : List (Tried B)) (s : Viewed B) → AreTried same me n ts s.node
      → under_in same n logs under (events_in ts) s ≡ under
  under_tried logs under [] s h = refl
  under_tried logs under (t ∷ ts) s h =
      ap (λ u. under_in same n logs u (events_in ts) (moved_by same n (Some t.event) s))
      (under_none (is_some (packet_in t.event)) (outcome_of same n t.event s.node).change.snapshot under
      (log_at logs (outcome_of same n t.event s.node).change.snapshot) s.node.applied h.0.no_snapshot)
      ∙ under_tried logs under ts (moved_by same n (Some t.event) s) h.1

  -- what is said of them
  module _ {S Y : Type 0} (m : Machine B S Y) where
    said_one : (logs : Logs B) (under : List (Entry B)) (t : Tried B) (x : NodeState B) → IsTried same me n t x
        → handed_out m me x.rows.boot (under ++ x.applied) t.applied ≡ handed_by same n m logs under (Some t.event) x
    said_one logs under t x h =
        ap (λ k. handed_out m k x.rows.boot (under ++ x.applied) t.applied) (sym (owner_is me t.event x h.plans_it))
        ∙ (ap (λ log. handed_out m (owner t.event) x.rows.boot log t.applied)
        (sym (from_none (is_some (packet_in t.event)) (outcome_of same n t.event x).change.snapshot under
        (log_at logs (outcome_of same n t.event x).change.snapshot) x.applied h.no_snapshot))
        ∙ ap (handed_out m (owner t.event) x.rows.boot (log_before same n logs under (Some t.event) x)) h.applied)

    pub said_tried : (logs : Logs B) (under : List (Entry B)) (ts : List (Tried B)) (s : Viewed B) → AreTried same me n ts s.node
        → heard_of m me s.node.rows.boot (under ++ s.node.applied) ts ≡ said_in same n m logs under (events_in ts) s
    said_tried logs under [] s h = refl
    said_tried logs under (t ∷ ts) s h =
        let next : Viewed B = moved_by same n (Some t.event) s in
        let up : List (Entry B) = under_after same n logs under (Some t.event) s.node in
        let up_is : up ≡ under =
        under_none (is_some (packet_in t.event)) (outcome_of same n t.event s.node).change.snapshot under
        (log_at logs (outcome_of same n t.event s.node).change.snapshot) s.node.applied h.0.no_snapshot in
        let log_is : (under ++ s.node.applied) ++ t.applied ≡ up ++ next.node.applied =
        append_assoc under s.node.applied t.applied ∙ (ap (λ es. under ++ es) (sym h.0.grows) ∙ ap (λ u. u ++ next.node.applied) (sym up_is)) in
        let rest : heard_of m me s.node.rows.boot ((under ++ s.node.applied) ++ t.applied) ts ≡ said_in same n m logs up (events_in ts) next =
        ap (λ k. heard_of m me k ((under ++ s.node.applied) ++ t.applied) ts) (sym h.0.boot)
        ∙ (ap (λ log. heard_of m me next.node.rows.boot log ts) log_is ∙ said_tried logs up ts next h.1) in
        let one = said_one logs under t s.node h.0 in
        λ i. one i ++ rest i

  -- what they make of the seat

  pub steps_of : (ts : List (Tried B)) (x : Part B) (rows : Rows B) → x.seen.opened ≡ With rows → x.me ≡ me → AreTried same me n ts x.seen.node
      → ((e : Event B) → Has (events_in ts) e → Received n x e) → AreSteps same n ts x
  steps_of [] x rows opened mine h got = tt
  steps_of (t ∷ ts) x rows opened mine h got = (
    record {
      rows = rows;
      opened = opened;
      own = owner_is me t.event x.seen.node h.0.plans_it ∙ sym mine;
      may = possible_is me t.event x.seen.node h.0.plans_it;
      received = got t.event here;
    },
    h.0.log,
    steps_of ts (moving (outcome_of same n t.event x.seen.node).node (outcome_of same n t.event x.seen.node).packets x) rows opened mine h.1
        (λ e k. got e (there k)),
  )

module _ {B : Type 0} (same : B → B → Bool) where
  pub advanced_seen : (ts : List (Tried B)) (s : Seated B) → seen (advanced_all same ts s) ≡ behind same s.members (events_in ts) (seen s)
  advanced_seen [] s = refl
  advanced_seen (t ∷ ts) s = advanced_seen ts (advanced_by same t.event s)

  pub advanced_events : (ts : List (Tried B)) (s : Seated B) → (advanced_all same ts s).part.events ≡ s.part.events + length ts
  advanced_events [] s = omega arith
  advanced_events (t ∷ ts) s =
      let l : (advanced_all same ts (advanced_by same t.event s)).part.events ≡ suc s.part.events + length ts =
      advanced_events ts (advanced_by same t.event s) in
      omega (arith, l)

  pub advanced_stays : (ts : List (Tried B)) (s : Seated B) → StaysAt s (advanced_all same ts s)
  advanced_stays [] s = record { table = refl; me = refl; tried = refl; received = refl; posted = refl }
  advanced_stays (t ∷ ts) s =
      let l = advanced_stays ts (advanced_by same t.event s) in
      record { table = l.table; me = l.me; tried = l.tried; received = l.received; posted = l.posted }
