-- What is known of the own events of a round.
use Rattle.std.proofs.Common.{◌≡◌, ℕ, Bool, true, eqb, List, [], ◌∷◌, ◌++◌, reverse, ap, sym, subst, ◌∙◌, refl, arith}
use Rattle.std.proofs.Common.{Option, None}
use Rattle.std.specs.Prelude.{MatchOption}
use Rattle.std.proofs.lemmas.Bool.{and_from, eq-eqb}
use Rattle.std.proofs.lemmas.List.{append-nil, reverse-append}
use Rattle.cluster_world.specs.Has.{Has}
use Rattle.paxos_packets.specs.Members.{IsMember}
use Rattle.paxos_packets.specs.declared.rows.Rows.{Rows}
use Rattle.mail_table.specs.Boxes.{Received}
use Rattle.mail_table.specs.Seats.{Seated}
use Rattle.mail_table.specs.Views.{box_of, through}
use Rattle.mail_table.specs.declared.part.Part.{Part}
use Rattle.circular_buffer.specs.Buffer.{keep_last}
use Rattle.actor_outboxes.proofs.Filing.{keep_all}
use Rattle.actor_outboxes.specs.Outboxes.{HasLimits, most_waiting, waiting}
use Rattle.replica_machine.specs.Replay.{Steps}
use Rattle.paxos_node.specs.declared.event.Event.{Event}
use Rattle.paxos_node.specs.Events.{owner, packet_in}
use Rattle.paxos_node.specs.Plans.{plans}
use Rattle.actor_parts.specs.Parts.{Parted}
use Rattle.actor_parts.specs.Tried.{Staged}
use Rattle.node_actor.specs.Calls.{is_own}
use Rattle.node_actor.specs.MidRound.{Under}
use Rattle.node_actor.specs.Trying.{acting_before, parts_before, Trying}
use Rattle.node_actor.proofs.Seating.{seated_stands}
use Rattle.node_actor.proofs.TryingNext.{tried_up}
use Rattle.node_actor.proofs.Viewing.{owned_event, possible_event, shorts}

-- an event with which no packet comes asks for none
pub received_own : {B : Type 0} (members : ℕ) (e : Event B) (x : Part B) → packet_in e ≡ None → Received members x e
received_own members e x none =
    subst (λ o. MatchOption o (Unit {0}) (λ p. (a : ℕ) × IsMember members a × Has (through (box_of members a x.me) x.received) p)) (sym none) tt

-- the last of a list is the first of it the other way round
pub last_first : {A : Type 0} (all xs : List A) (x : A) → all ≡ xs ++ x ∷ [] → reverse all ≡ x ∷ reverse xs
last_first {A} all xs x is = ap (λ (l : List A). reverse l) is ∙ reverse-append xs (x ∷ [])

-- an event of a node is an own one of the actor, whose number stays
pub own_at : {B : Type 0} (first me : ℕ) (e : Event B) → me ≡ first → is_own first e ≡ true → is_own me e ≡ true
own_at first me e still h = subst (λ k. is_own k e ≡ true) (sym still) h

-- and one that the actor's node plans, also if it went on by events that are tried
pub plans_ahead : {B M K : Type 0} (same : B → B → Bool) (holds : K → Rows B → Type 0) (is_failed : K → Bool) (p : Parted B M K) (s : Seated B)
    (g : Staged B) (e : Event B)
    → Trying same holds is_failed p s g → is_own p.node.me e ≡ true → plans p.node.me e p.node.state ≡ true
plans_ahead same holds is_failed p s g e t own =
    let o = owned_event p.node.me e own in
    let mine : eqb (owner e) p.node.me ≡ true = eq-eqb (owner e) p.node.me o.0 in
    and_from _ _ mine (and_from _ _ o.1 (possible_event p.node.me e p.node.state own (tried_up same holds is_failed p s g t)))

-- a round that came to no event yet, of an actor by which none is tried
pub round_first : {B S Y M K : Type 0} (same : B → B → Bool) (steps : Steps B S Y) (content : M → S) (loaded : List ℕ → Option S)
    (holds : K → Rows B → Type 0) (finds : K → Rows B → Type 0) (failures : K → ℕ) (is_failed : K → Bool) (p : Parted B M K) (s : Seated B)
    (g : Staged B)
    → Trying same holds is_failed p s g → HasLimits p.waiting
    → Under same steps content loaded holds finds failures (acting_before p s) s [] [] [] (acting_before p s) s
round_first same steps content loaded holds finds failures is_failed p s g t limits =
    record {
      me = refl;
      members = refl;
      fresh = t.fresh;
      walks = record {
        stands = seated_stands same (parts_before p s) s t.seated;
        table = refl;
        me = refl;
        moved = refl;
        received = refl;
        tries = λ k peer. refl;
        events = omega arith;
        counted = λ some. absurd (omega (arith, some));
      };
      agree = tt;
      says = λ first under logs l takes. refl;
      follows = λ first under logs l takes. l;
      waits = λ k peer. sym (ap (keep_last most_waiting) (append-nil (waiting k p.waiting))
          ∙ keep_all most_waiting (waiting k p.waiting) (shorts same holds is_failed (parts_before p s) t.sound limits k peer));
      posts = λ k peer. record { posted = refl; tries = refl };
      rows = (t.sound.serves t.fresh).held;
      counts = omega arith;
    }
