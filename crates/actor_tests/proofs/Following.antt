-- What a node plans follows from what its seat knows.
use Rattle.std.proofs.Common.{◌≡◌, ℕ, Bool, true, false, Option, Some, None, [], ◌∷◌, eqb, refl, ap, sym, subst, ◌∙◌}
use Rattle.std.proofs.lemmas.Bool.{and_from, eq-eqb}
use Rattle.std.specs.Prelude.{◌==◌, MatchOption}
use Rattle.cluster_world.proofs.Lists.{has_right}
use Rattle.cluster_world.specs.Has.{Has, here}
use Rattle.mail_table.proofs.Parcels.{through_more}
use Rattle.mail_table.specs.Boxes.{Follows, Received}
use Rattle.mail_table.specs.Seats.{Mailed, Seated, Owns, knows}
use Rattle.mail_table.specs.Views.{box_of, lost, receiving, through}
use Rattle.mail_table.specs.declared.part.Part.{Part}
use Rattle.actor_tests.specs.Fresh.{IsFresh}
use Rattle.actor_tests.specs.Standing.{Knows}
use Rattle.paxos_node.specs.Adopting.{Planned}
use Rattle.paxos_node.specs.Events.{owner, possible}
use Rattle.paxos_node.specs.Held.{Held}
use Rattle.paxos_node.specs.Plans.{is_planned, plans}
use Rattle.paxos_node.specs.declared.event.Event.{Event}
use Rattle.paxos_node.specs.declared.event.Event.TheVariants.{Start, Tick, Deliver}
use Rattle.paxos_node.specs.declared.outcome.Outcome.{Outcome}
use Rattle.paxos_packets.specs.Members.{IsMember}
use Rattle.paxos_packets.specs.declared.packet.Packet.{Packet}
use Rattle.paxos_planning.specs.Node.{NodeState}

-- its outcome at an event that comes to it
pub follows_event : (m : Mailed) (s : Seated ℕ) (h : Held ℕ) (o : Outcome ℕ) (e : Event ℕ) → Knows m s h → owner e ≡ s.part.me
    → possible e h.state ≡ true → Received m.members s.part e → Planned eqb h.members e h.state o → Follows eqb m.members s.part o
follows_event m s h o e k own may received p =
    record {
      event = e;
      rows = k.rows;
      opened = k.opened;
      own = own;
      may = subst (λ (v : NodeState ℕ). possible e v ≡ true) (sym k.node) may;
      is = subst (λ (z : ℕ × NodeState ℕ). Planned eqb z.0 e z.1 o) (λ i. (k.members i, sym k.node i)) p;
      received = received;
    }

pub follows : (m : Mailed) (s : Seated ℕ) (h : Held ℕ) (o : Outcome ℕ) (me : ℕ) (starts : Bool) → Knows m s h → me ≡ s.part.me
    → h.state.up ≡ true → (starts ≡ true → Planned eqb h.members (Start me) h.state o)
    → (starts ≡ false → Planned eqb h.members (Tick me) h.state o) → Follows eqb m.members s.part o
follows m s h o me true k e up p q = follows_event m s h o (Start me) k e up tt (p refl)
follows m s h o me false k e up p q = follows_event m s h o (Tick me) k e up tt (q refl)

-- it plans such an event
pub plans_event : (m : Mailed) (s : Seated ℕ) (h : Held ℕ) (e : Event ℕ) → Knows m s h → owner e ≡ s.part.me → is_planned e ≡ true
    → possible e h.state ≡ true → plans h.me e h.state ≡ true
plans_event m s h e k own planned may =
    and_from (owner e == h.me) _ (eq-eqb (owner e) h.me (own ∙ sym k.me)) (and_from (is_planned e) (possible e h.state) planned may)

-- a packet that was fetched is received
pub fetched_one : (n from : ℕ) (p : Packet ℕ) (x : Part ℕ) → IsMember n from → Received n (receiving (box_of n from x.me) p x) (Deliver p)
fetched_one n from p x member = (
  from,
  member,
  subst (λ l. Has l p) (sym (through_more (box_of n from x.me) x.received (p ∷ [])))
      (has_right (through (box_of n from x.me) x.received) here),
)

-- a post leaves what the seat knows of the node
pub knows_still : (m : Mailed) (s t : Seated ℕ) (h : Held ℕ) → Knows m s h → Owns m t → t.part.me ≡ s.part.me → t.part.seen ≡ s.part.seen
    → Knows m t h
knows_still m s t h k owned me seen =
    record {
      owned = owned;
      me = k.me ∙ sym me;
      members = k.members;
      node = ap (λ v. v.node) seen ∙ k.node;
      rows = k.rows;
      opened = ap (λ v. v.opened) seen ∙ k.opened;
    }

-- a fetch opens no node
pub fresh_after : {B : Type 0} (m : Mailed) (s t : Seated B) (at : ℕ) (r : Option (Packet B))
    → MatchOption r (t ≡ knows (lost at s.part) s) (λ p. t ≡ knows (receiving at p s.part) s) → IsFresh m s → Owns m t → IsFresh m t
fresh_after {B} m s t at None is fresh owned = (
  owned,
  ap (λ (z : Seated B). z.part.seen.opened) is ∙ fresh.1,
  subst (λ k. IsMember m.members k) (sym (ap (λ (z : Seated B). z.part.me) is)) fresh.2,
)
fresh_after {B} m s t at (Some p) is fresh owned = (
  owned,
  ap (λ (z : Seated B). z.part.seen.opened) is ∙ fresh.1,
  subst (λ k. IsMember m.members k) (sym (ap (λ (z : Seated B). z.part.me) is)) fresh.2,
)
