-- An event that is no cut, and commits a snapshot, has it of a packet.
use Rattle.std.proofs.Common.{◌≡◌, ⊎_elim, ℕ, Bool, true, false, eqb, refl, sym, ap, ◌∙◌, Option, Some, None}
use Rattle.std.proofs.lemmas.Bool.{and_parts, false≢true}
use Rattle.std.specs.Prelude.{is_some}
use Rattle.cluster_world.proofs.Standing.{Keeps, Cuts, Takes, Turned, turns}
use Rattle.paxos_node.specs.Adopting.{Planned}
use Rattle.paxos_node.specs.Events.{owner, possible, on_event, packet_in}
use Rattle.paxos_node.specs.Plans.{is_planned, plans}
use Rattle.paxos_node.specs.declared.event.Event.{Event}
use Rattle.paxos_node.specs.declared.event.Event.TheVariants.{Take, Tick, Start, Suspect, Deliver, Cut, Crash, Restart}
use Rattle.paxos_node.specs.declared.outcome.Outcome.{Outcome}
use Rattle.paxos_packets.specs.Snapshot as taken
use Rattle.paxos_packets.specs.declared.rows.Change.{Change}
use Rattle.paxos_planning.specs.Node.{NodeState, Plan}
use Rattle.paxos_planning.specs.Plan.{begun}
use Rattle.actor_parts.proofs.Planning.{settled_change}
use Rattle.node_actor.specs.Calls.{is_cut, is_own}

some_is_none : {A : Type 0} (x : A) → ◌≡◌ {A = Option A} (Some x) None → ⊥
some_is_none x e = cc

pub from_packet : {B : Type 0} (same : B → B → Bool) (me members : ℕ) (e : Event B) (x : NodeState B) (o : Outcome B) → x.up ≡ true
    → plans me e x ≡ true → is_cut e ≡ false → Planned same members e x o → (s : taken.Snapshot) → o.change.snapshot ≡ Some s
    → is_some (packet_in e) ≡ true
from_packet {B} same me members e x o up mine other planned s commits =
    ⊎_elim (λ (k : Keeps same e x t). absurd (some_is_none s (sym here ∙ k.cut)))
    (λ z. ⊎_elim (λ (c : Cuts e x t). absurd (false≢true (sym other ∙ ap is_cut c.event)))
    (λ (k : Takes e x t). ap (λ f. is_some (packet_in f)) k.event) z) turned.turn
  where
    t : Plan B
    t = on_event same members e (begun x)

    may : (is_planned e ≡ true) × (possible e x ≡ true)
    may = and_parts (is_planned e) _ (and_parts (eqb (owner e) me) _ mine).1

    turned : Turned same e x t
    turned = turns same members x up e may.1 (λ n i. false≢true (sym (ap is_planned i) ∙ may.0))

    here : t.change.snapshot ≡ Some s
    here = sym (ap (λ (c : Change B). c.snapshot) (planned.change ∙ settled_change (owner e) t)) ∙ commits

-- an event that a call may make is no cut

pub own_is_other : {B : Type 0} (me : ℕ) (e : Event B) → is_own me e ≡ true → is_cut e ≡ false
own_is_other me (Take n t body) h = refl
own_is_other me (Tick n) h = refl
own_is_other me (Start n) h = refl
own_is_other me (Suspect n other) h = refl
own_is_other me (Deliver p) h = refl
own_is_other me (Cut n snapshot) h = absurd (false≢true h)
own_is_other me (Crash n) h = refl
own_is_other me (Restart n) h = refl
