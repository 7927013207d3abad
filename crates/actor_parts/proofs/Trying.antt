-- What an event's outcome says of the event that is tried.
use Rattle.std.proofs.Common.{◌≡◌, ℕ, Bool, not, true, false, eqb, Option, None, List, [], ◌∷◌, ◌++◌, sym, ap, subst, ◌∙◌, refl}
use Rattle.std.proofs.lemmas.Bool.{and_parts, eqb-true}
use Rattle.std.specs.Option.{option_or}
use Rattle.paxos_packets.specs.Snapshot.{Snapshot}
use Rattle.paxos_packets.specs.declared.entry.Entry.{Entry}
use Rattle.paxos_packets.specs.declared.packet.Packet.{Packet}
use Rattle.paxos_packets.specs.declared.rows.Rows.{Rows}
use Rattle.paxos_acceptor.specs.Acceptor as accepting
use Rattle.paxos_acceptor.specs.Ahead.{IsAhead}
use Rattle.paxos_node.specs.Adopting.{adopted, rested, Fits, Planned}
use Rattle.paxos_node.specs.Events.{outcome_of, owner, is_round_refused, is_full_refused}
use Rattle.paxos_node.specs.Held.{Held}
use Rattle.paxos_node.specs.Plans.{plans}
use Rattle.paxos_node.specs.declared.event.Event.{Event}
use Rattle.paxos_node.specs.declared.outcome.Outcome.{Outcome}
use Rattle.paxos_planning.specs.Node.{NodeState}
use Rattle.actor_parts.specs.Parts.{Parted}
use Rattle.actor_parts.specs.Tried.{AreTried, IsTried, Staged, Tries, node_behind}
use Rattle.actor_parts.specs.declared.tried.Tried.{Tried}
use Rattle.actor_parts.proofs.Carrying.{next_applied, next_rows}

up_then : (b : Bool) → not b ≡ false → b ≡ true
up_then true h = refl
up_then false h = sym h

owner_is : {B : Type 0} (me : ℕ) (e : Event B) (x : NodeState B) → plans me e x ≡ true → owner e ≡ me
owner_is me e x h = eqb-true (owner e) me (and_parts (eqb (owner e) me) _ h).0

-- an outcome fits a node that stays
pub fits_still : {B : Type 0} (o : Outcome B) (old new : Held B) → new.me ≡ old.me → new.members ≡ old.members → new.state ≡ old.state
    → Fits old.me old.members o old.state → Fits new.me new.members o new.state
fits_still o old new me members state h =
    subst (Fits new.me new.members o) (sym state) (subst (λ n. Fits new.me n o old.state) (sym members)
    (subst (λ n. Fits n old.members o old.state) (sym me) h))

module _ {B : Type 0} (same : B → B → Bool) (me members : ℕ) where
  module _ (e : Event B) (x : NodeState B) (o : Outcome B) (planned : Planned same members e x o) (up : o.is_down ≡ false)
      (none : o.change.snapshot ≡ None) where
    node_is : adopted (owner e) members o x ≡ (outcome_of same members e x).node
    node_is = planned.node

    rows_are : (outcome_of same members e x).node.rows ≡ accepting.adopted x.rows o.change
    rows_are = ap (λ y. y.rows) (sym node_is) ∙ next_rows (owner e) members o x

    -- the event is tried
    pub is_tried : plans me e x ≡ true → is_round_refused e x ≡ false → is_full_refused same e x ≡ false
        → (log : ℕ) (packets : List (Packet B)) (applied : List (Entry B)) → log ≡ o.moves.log → packets ≡ o.packets → applied ≡ o.applied
        → IsTried same me members (record { event = e; log = log; packets = packets; applied = applied }) x
    is_tried mine some_round some_room log packets applied log_is packets_are applied_is =
        record {
          plans_it = mine;
          some_round = some_round;
          some_room = some_room;
          agrees = planned.agrees;
          packets = packets_are ∙ planned.packets;
          applied = applied_is ∙ planned.applied;
          log = log_is ∙ planned.log;
          up = up_then (outcome_of same members e x).node.up (sym planned.is_down ∙ up);
          boot = ap (λ (r : Rows B). r.boot) rows_are;
          no_snapshot = ap (λ c. c.snapshot) (sym planned.change) ∙ none;
          snapshot = ap (λ (r : Rows B). r.snapshot) rows_are ∙ ap (λ (s : Option Snapshot). option_or s x.rows.snapshot) none;
          grows = ap (λ y. y.applied) (sym node_is) ∙ (next_applied (owner e) members o x up
              ∙ ap (λ (s : Option Snapshot). (rested o.moves.over s x).applied ++ o.applied) none)
              ∙ ap (λ (es : List (Entry B)). x.applied ++ es) (sym applied_is);
        }

  -- it is one event more, once the node has adopted its outcome
  pub tries : {M K : Type 0} (e : Event B) (o : Outcome B) (old new : Parted B M K) (was now : Staged B) → plans me e old.node.state ≡ true
      → Planned same members e old.node.state o → o.is_down ≡ false → o.change.snapshot ≡ None
      → is_round_refused e old.node.state ≡ false → is_full_refused same e old.node.state ≡ false
      → (log : ℕ) (packets : List (Packet B)) (applied : List (Entry B)) → log ≡ o.moves.log → packets ≡ o.packets → applied ≡ o.applied
      → now.tried ≡ was.tried ++ record { event = e; log = log; packets = packets; applied = applied } ∷ []
      → new.node.state ≡ adopted me members o old.node.state
      → ((kept : Rows B) → IsAhead kept was.ahead old.node.state.rows → IsAhead kept now.ahead (accepting.adopted old.node.state.rows o.change))
      → Tries same me members e old new was now
  tries e o old new was now mine planned up none some_round some_room log packets applied log_is packets_are applied_is all state ahead =
      let x = old.node.state in
      let after : new.node.state ≡ (outcome_of same members e x).node =
      state ∙ ap (λ n. adopted n members o x) (sym (owner_is me e x mine)) ∙ node_is e x o planned up none in
      record {
        one = record { event = e; log = log; packets = packets; applied = applied };
        is = refl;
        tried = is_tried e x o planned up none mine some_round some_room log packets applied log_is packets_are applied_is;
        all = all;
        node = after;
        ahead = λ kept h. subst (IsAhead kept now.ahead) (sym (ap (λ y. y.rows) after ∙ rows_are e x o planned up none)) (ahead kept h);
      }

  -- lists of events with one more

  pub tried_more : (ts : List (Tried B)) (t : Tried B) (x : NodeState B) → AreTried same me members ts x
      → IsTried same me members t (node_behind same me members ts x) → AreTried same me members (ts ++ t ∷ []) x
  tried_more [] t x h k = (k, tt)
  tried_more (s ∷ ss) t x h k = (h.0, tried_more ss t (outcome_of same members s.event x).node h.1 k)

  pub behind_more : (ts : List (Tried B)) (t : Tried B) (x : NodeState B)
      → node_behind same me members (ts ++ t ∷ []) x ≡ (outcome_of same members t.event (node_behind same me members ts x)).node
  behind_more [] t x = refl
  behind_more (s ∷ ss) t x = behind_more ss t (outcome_of same members s.event x).node

  -- the boot and the snapshot of the node stay, and what it applied grows

  pub boot_stays : (ts : List (Tried B)) (x : NodeState B) → AreTried same me members ts x
      → (node_behind same me members ts x).rows.boot ≡ x.rows.boot
  boot_stays [] x h = refl
  boot_stays (t ∷ ts) x h = boot_stays ts (outcome_of same members t.event x).node h.1 ∙ h.0.boot

  pub snapshot_stays : (ts : List (Tried B)) (x : NodeState B) → AreTried same me members ts x
      → (node_behind same me members ts x).rows.snapshot ≡ x.rows.snapshot
  snapshot_stays [] x h = refl
  snapshot_stays (t ∷ ts) x h = snapshot_stays ts (outcome_of same members t.event x).node h.1 ∙ h.0.snapshot

  pub up_stays : (ts : List (Tried B)) (x : NodeState B) → AreTried same me members ts x → x.up ≡ true
      → (node_behind same me members ts x).up ≡ true
  up_stays [] x h up = up
  up_stays (t ∷ ts) x h up = up_stays ts (outcome_of same members t.event x).node h.1 h.0.up
