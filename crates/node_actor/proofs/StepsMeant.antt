-- The steps of the events whose commit failed, among the events of the core: all of them, one after another.
use Rattle.std.proofs.Common.{Some}
use Rattle.std.proofs.Common.{◌≡◌, ℕ, ◌+◌, Bool, List, [], ◌∷◌, ◌++◌, ap, sym, ◌∙◌, refl, arith}
use Rattle.paxos_acceptor.specs.Acceptor as accepting
use Rattle.paxos_node.specs.Adopting.{adopted}
use Rattle.paxos_node.specs.Events.{outcome_of}
use Rattle.paxos_node.specs.View.{Viewed, moved}
use Rattle.paxos_node.specs.declared.event.Event.{Event}
use Rattle.paxos_planning.specs.Node.{NodeState}
use Rattle.actor_parts.specs.Tried.{AreTried, IsMeant, change_of, count_of, events_in, node_behind}
use Rattle.actor_parts.specs.declared.tried.FailedCommit.{FailedCommit}
use Rattle.actor_parts.specs.declared.tried.FailedCommit.TheVariants.{One, Round}
use Rattle.actor_parts.specs.declared.tried.Tried.{Tried}
use Rattle.mail_table.specs.Seats.{Seated}
use Rattle.node_actor.specs.EventLists.{behind}
use Rattle.node_actor.specs.Posts.{advanced, stepped}
use Rattle.node_actor.specs.Preparing.{ArePossible, AreOf, moved_by_all, node_after, of_one, of_round}
use Rattle.node_actor.specs.Turns.{StaysAt}
use Rattle.node_actor.specs.Views.{moved_by}
use Rattle.node_actor.proofs.RowsBehind.{rows_behind}
use Rattle.node_actor.proofs.Seating.{stays_on}
use Rattle.node_actor.proofs.TriedEvents.{advanced_events, advanced_seen, advanced_stays}
use Rattle.node_actor.proofs.Viewing.{node_is, packets_are, owner_is, possible_is}

module _ {B : Type 0} (same : B → B → Bool) (members : ℕ) where
  -- lists of events, one after another

  pub possible_append : (es fs : List (Event B)) (x : NodeState B) → ArePossible same members es x
      → ArePossible same members fs (node_after same members es x) → ArePossible same members (es ++ fs) x
  possible_append [] fs x h k = k
  possible_append (e ∷ es) fs x h k = (h.0, possible_append es fs (outcome_of same members e x).node h.1 k)

  pub moved_append : (es fs : List (Event B)) (s : Viewed B)
      → moved_by_all same members (es ++ fs) s ≡ moved_by_all same members fs (moved_by_all same members es s)
  moved_append [] fs s = refl
  moved_append (e ∷ es) fs s = moved_append es fs (moved_by same members (Some e) s)

  pub node_moved : (es : List (Event B)) (s : Viewed B) → (moved_by_all same members es s).node ≡ node_after same members es s.node
  node_moved [] s = refl
  node_moved (e ∷ es) s = node_moved es (moved_by same members (Some e) s)

  pub opened_still : (es : List (Event B)) (s : Viewed B) → (moved_by_all same members es s).opened ≡ s.opened
  opened_still [] s = refl
  opened_still (e ∷ es) s = opened_still es (moved_by same members (Some e) s)

  behind_moved : (es : List (Event B)) (s : Viewed B) → behind same members es s ≡ moved_by_all same members es s
  behind_moved [] s = refl
  behind_moved (e ∷ es) s = behind_moved es (moved_by same members (Some e) s)

-- they are possible, and lead the seat to its view after them, and to the rows that the commit was to leave
pub record Leads {B : Type 0} (same : B → B → Bool) (me members : ℕ) (m : FailedCommit B) (s : Seated B) : Type 0 where
  pub events : List (Event B)
  pub of_it : AreOf same me members s.part.seen.node m events
  pub possible : ArePossible same members events s.part.seen.node
  pub sees : (stepped same m s).part.seen ≡ moved_by_all same members events s.part.seen
  pub rows : (node_after same members events s.part.seen.node).rows ≡ accepting.adopted s.part.seen.node.rows (change_of m)
  pub counted : (stepped same m s).part.events ≡ s.part.events + count_of m
  pub stays : StaysAt s (stepped same m s)

module _ {B : Type 0} (same : B → B → Bool) (me members : ℕ) where
  possible_each : (ts : List (Tried B)) (x : NodeState B) → AreTried same me members ts x → ArePossible same members (events_in ts) x
  possible_each [] x h = tt
  possible_each (t ∷ ts) x h =
      (possible_is me t.event x h.0.plans_it, possible_each ts (outcome_of same members t.event x).node h.1)

  after_each : (ts : List (Tried B)) (x : NodeState B) → node_after same members (events_in ts) x ≡ node_behind same me members ts x
  after_each [] x = refl
  after_each (t ∷ ts) x = after_each ts (outcome_of same members t.event x).node

  pub leads_on : (m : FailedCommit B) (s : Seated B) → s.part.me ≡ me → s.members ≡ members → IsMeant same me members s.part.seen.node m
      → Leads same me members m s
  leads_on (One o) s mine of plan =
      let x : NodeState B = s.part.seen.node in
      let node : adopted s.part.me s.members o x ≡ (outcome_of same members plan.event x).node =
      (λ i. adopted (mine i) (of i) o x)
      ∙ node_is same me members plan.event x x o (owner_is me plan.event x plan.plans) plan.planned refl in
      let packets : o.packets ≡ (outcome_of same members plan.event x).packets = packets_are same me members plan.event x x o plan.planned refl in
      record {
        events = plan.event ∷ [];
        of_it = of_one o plan.event plan.plans plan.planned;
        possible = (possible_is me plan.event x plan.plans, tt);
        sees = λ i. moved (node i) (packets i) s.part.seen;
        rows = ap (λ (y : NodeState B). y.rows) (sym node) ∙ rows_behind s.part.me s.members o x;
        counted = omega arith;
        stays = stays_on o s (advanced o s) refl;
      }
  leads_on (Round c ts) s mine of meant =
      let x : NodeState B = s.part.seen.node in
      record {
        events = events_in ts;
        of_it = of_round c ts meant.0;
        possible = possible_each ts x meant.0;
        sees = advanced_seen same ts s
            ∙ (ap (λ k. behind same k (events_in ts) s.part.seen) of ∙ behind_moved same members (events_in ts) s.part.seen);
        rows = ap (λ (y : NodeState B). y.rows) (after_each ts x) ∙ sym meant.2;
        counted = advanced_events same ts s;
        stays = advanced_stays same ts s;
      }
