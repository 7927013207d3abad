-- The acts among a round's own events: each is gained, or held back.
use Rattle.std.proofs.Common.{◌≡◌, ◌≤◌, ℕ, suc, Bool, true, false, List, [], ◌∷◌, ◌++◌, length, ap, sym, subst, ◌∙◌, refl, arith, Some}
use Rattle.std.specs.Prelude.{All, drop, if◌then◌else◌}
use Rattle.std.proofs.lemmas.List.{append_assoc, append-nil, length-drop}
use Rattle.std.proofs.lemmas.List.Elements.{All-drop, All-head, All-tail}
use Rattle.std.proofs.lemmas.Grind.{flat_map-append}
use Rattle.paxos_packets.specs.declared.entry.Entry.{Entry}
use Rattle.paxos_packets.specs.declared.packet.Packet.{Packet}
use Rattle.paxos_node.specs.declared.event.Event.{Event}
use Rattle.paxos_node.specs.declared.event.Event.TheVariants.{Deliver}
use Rattle.paxos_node.specs.Events.{outcome_of, is_round_refused, is_full_refused}
use Rattle.paxos_node.specs.View.{Viewed}
use Rattle.paxos_planning.specs.Node.{NodeState}
use Rattle.node_actor.specs.Calls.{is_own}
use Rattle.node_actor.specs.Rounds.{is_treated, made_own, held_own, made_of, made_in, held_from, with_event}
use Rattle.node_actor.specs.Views.{moved_by}
use Rattle.actor_run.specs.Events.{asked_by, asked_in, act_in, acts_in, behind, gained_by, gained_in}
use Rattle.actor_run.specs.RoundRuns.{AreHeld}
use Rattle.actor_run.proofs.Lists.{gains, none_asked}
use Rattle.actor_run.proofs.ManyEvents.{behind_all, gained_all}

module _ {B : Type 0} (same : B → B → Bool) (members me : ℕ) where
  -- of own events

  pub own_acts : (own : List (Event B)) (s : Viewed B) → All (λ e. is_own me e ≡ true) own
      → acts_in (gained_in same members (made_own same members own s.node) s) ++ asked_in me (held_own same members own s.node)
      ≡ asked_in me own
  own_acts [] s all = refl
  own_acts (e ∷ es) s all =
      let rest = All-tail (λ f. is_own me f ≡ true) e es all in
      by_round e es s (is_round_refused e s.node) (is_full_refused same e s.node) refl refl (All-head (λ f. is_own me f ≡ true) e es all)
      (own_acts es s rest) (own_acts es (moved_by same members (Some e) s) rest)
    where
      by_round : (e : Event B) (es : List (Event B)) (s : Viewed B) (no_round no_room : Bool) → is_round_refused e s.node ≡ no_round
          → is_full_refused same e s.node ≡ no_room → is_own me e ≡ true
          → acts_in (gained_in same members (made_own same members es s.node) s) ++ asked_in me (held_own same members es s.node) ≡ asked_in me es
          → acts_in (gained_in same members (made_own same members es (outcome_of same members e s.node).node) (moved_by same members (Some e) s))
          ++ asked_in me (held_own same members es (outcome_of same members e s.node).node) ≡ asked_in me es
          → acts_in (gained_in same members (made_own same members (e ∷ es) s.node) s) ++ asked_in me (held_own same members (e ∷ es) s.node)
          ≡ asked_in me (e ∷ es)
      by_round e es s true no_room r f own rest made =
          rw r (rest ∙ sym (ap (λ l. l ++ asked_in me es) (none_asked same members me e s.node r)))
      by_round e es s false true r f own rest made = rw (r, f) refl
      by_round e es s false false r f own rest made =
          let y : NodeState B = (outcome_of same members e s.node).node in
          let t : Viewed B = moved_by same members (Some e) s in
          let more : List (Entry B) = gained_in same members (made_own same members es y) t in
          rw (r, f)
          (ap (λ l. l ++ asked_in me (held_own same members es y)) (flat_map-append act_in (gained_by e s.node) more)
          ∙ (append_assoc (acts_in (gained_by e s.node)) (acts_in more) (asked_in me (held_own same members es y))
          ∙ (ap (λ l. l ++ (acts_in more ++ asked_in me (held_own same members es y))) (gains same members me e s.node own f)
          ∙ ap (λ l. asked_by me e ++ l) made)))

  -- packets gain nothing

  pub none_gained : (packets : List (Packet B)) (s : Viewed B) → gained_in same members (made_of same members me packets s.node) s ≡ []
  none_gained [] s = refl
  none_gained (p ∷ ps) s =
      by_treated p ps s (is_treated me members p s.node) refl (none_gained ps s) (none_gained ps (moved_by same members (Some (Deliver p)) s))
    where
      by_treated : (p : Packet B) (ps : List (Packet B)) (s : Viewed B) (b : Bool) → is_treated me members p s.node ≡ b
          → gained_in same members (made_of same members me ps s.node) s ≡ []
          → gained_in same members (made_of same members me ps (outcome_of same members (Deliver p) s.node).node)
          (moved_by same members (Some (Deliver p)) s) ≡ []
          → gained_in same members (made_of same members me (p ∷ ps) s.node) s ≡ []
      by_treated p ps s true e none some = rw e some
      by_treated p ps s false e none some = rw e none

  -- of a whole round
  pub round_acts : (own : List (Event B)) (packets : List (Packet B)) (s : Viewed B) → All (λ e. is_own me e ≡ true) own
      → acts_in (gained_in same members (made_in same members me own packets s) s) ++ asked_in me (held_own same members own s.node)
      ≡ asked_in me own
  round_acts own packets s all =
      let mine : List (Event B) = made_own same members own s.node in
      let t : Viewed B = behind same members mine s in
      let gained : gained_in same members (mine ++ made_of same members me packets t.node) s ≡ gained_in same members mine s =
      gained_all same members mine (made_of same members me packets t.node) s
      ∙ (ap (λ g. gained_in same members mine s ++ g) (none_gained packets t) ∙ append-nil (gained_in same members mine s)) in
      ap (λ g. acts_in g ++ asked_in me (held_own same members own s.node)) gained ∙ own_acts own s all

  -- what is held back

  made_is : (e : Event B) (es : List (Event B)) (x : NodeState B) (no_round no_room : Bool) → is_round_refused e x ≡ no_round
      → is_full_refused same e x ≡ no_room
      → made_own same members (e ∷ es) x
      ≡ with_event no_round no_room e (made_own same members es (if no_round then x else (outcome_of same members e x).node))
  made_is e es x no_round no_room r f =
      λ i. with_event (r i) (f i) e (made_own same members es (if r i then x else (outcome_of same members e x).node))

  held_is : (e : Event B) (es : List (Event B)) (x : NodeState B) (no_round no_room : Bool) → is_round_refused e x ≡ no_round
      → is_full_refused same e x ≡ no_room
      → held_own same members (e ∷ es) x
      ≡ held_from no_round no_room (e ∷ es) (held_own same members es (if no_round then x else (outcome_of same members e x).node))
  held_is e es x no_round no_room r f =
      λ i. held_from (r i) (f i) (e ∷ es) (held_own same members es (if r i then x else (outcome_of same members e x).node))

  -- the held events are the last ones of the own ones
  pub held_last : (own : List (Event B)) (x : NodeState B) → (k : ℕ) × (held_own same members own x ≡ drop k own)
  held_last [] x = (0, refl)
  held_last (e ∷ es) x =
      by_round e es x (is_round_refused e x) (is_full_refused same e x) (held_is e es x _ _ refl refl) (held_last es x)
      (held_last es (outcome_of same members e x).node)
    where
      by_round : (e : Event B) (es : List (Event B)) (x : NodeState B) (no_round no_room : Bool)
          → held_own same members (e ∷ es) x
          ≡ held_from no_round no_room (e ∷ es) (held_own same members es (if no_round then x else (outcome_of same members e x).node))
          → (k : ℕ) × (held_own same members es x ≡ drop k es)
          → (k : ℕ) × (held_own same members es (outcome_of same members e x).node ≡ drop k es)
          → (k : ℕ) × (held_own same members (e ∷ es) x ≡ drop k (e ∷ es))
      by_round e es x true no_room is rest made = (suc rest.0, is ∙ rest.1)
      by_round e es x false true is rest made = (0, is)
      by_round e es x false false is rest made = (suc made.0, is ∙ made.1)

  pub held_are_own : (own held : List (Event B)) (x : NodeState B) → held ≡ held_own same members own x → All (λ e. is_own me e ≡ true) own
      → All (λ e. is_own me e ≡ true) held
  held_are_own own held x is all =
      let last = held_last own x in
      subst (All (λ e. is_own me e ≡ true)) (sym (is ∙ last.1)) (All-drop (λ e. is_own me e ≡ true) last.0 own all)

  pub held_are_few : (own held : List (Event B)) (x : NodeState B) → held ≡ held_own same members own x → length held ≤ length own
  held_are_few own held x is =
      let last = held_last own x in
      let long : length held ≡ length (drop last.0 own) = ap length (is ∙ last.1) in
      let short = length-drop last.0 own in
      omega (arith, long, short)

  -- the first held one was refused for want of room, after those that were made
  pub first_held : (own : List (Event B)) (s : Viewed B) (e : Event B) (es : List (Event B)) → held_own same members own s.node ≡ e ∷ es
      → is_full_refused same e (behind same members (made_own same members own s.node) s).node ≡ true
  first_held [] s e es is = absurd (let off : ◌≡◌ {A = List (Event B)} [] (e ∷ es) = is in cc)
  first_held (x ∷ xs) s e es is =
      by_round x xs s e es (is_round_refused x s.node) (is_full_refused same x s.node) refl refl (made_is x xs s.node _ _ refl refl)
      (sym (held_is x xs s.node _ _ refl refl) ∙ is) (first_held xs s e es) (first_held xs (moved_by same members (Some x) s) e es)
    where
      by_round : (x : Event B) (xs : List (Event B)) (s : Viewed B) (e : Event B) (es : List (Event B)) (no_round no_room : Bool)
          → is_round_refused x s.node ≡ no_round → is_full_refused same x s.node ≡ no_room
          → made_own same members (x ∷ xs) s.node
          ≡ with_event no_round no_room x (made_own same members xs (if no_round then s.node else (outcome_of same members x s.node).node))
          → held_from no_round no_room (x ∷ xs) (held_own same members xs (if no_round then s.node else (outcome_of same members x s.node).node))
          ≡ e ∷ es
          → (held_own same members xs s.node ≡ e ∷ es
          → is_full_refused same e (behind same members (made_own same members xs s.node) s).node ≡ true)
          → (held_own same members xs (outcome_of same members x s.node).node ≡ e ∷ es
          → is_full_refused same e (behind same members (made_own same members xs (outcome_of same members x s.node).node)
          (moved_by same members (Some x) s)).node ≡ true)
          → is_full_refused same e (behind same members (made_own same members (x ∷ xs) s.node) s).node ≡ true
      by_round x xs s e es true no_room r f made is rest after =
          subst (λ l. is_full_refused same e (behind same members l s).node ≡ true) (sym made) (rest is)
      by_round x xs s e es false true r f made is rest after =
          let all : ◌≡◌ {A = List (Event B)} (x ∷ xs) (e ∷ es) = is in
          let first : x ≡ e = cc in
          subst (λ l. is_full_refused same e (behind same members l s).node ≡ true) (sym made)
          (subst (λ z. is_full_refused same z s.node ≡ true) first f)
      by_round x xs s e es false false r f made is rest after =
          subst (λ l. is_full_refused same e (behind same members l s).node ≡ true) (sym made) (after is)

  -- so it is after a whole round: no act was taken since
  pub are_held : (own : List (Event B)) (packets : List (Packet B)) (made held : List (Event B)) (s : Viewed B)
      → held ≡ held_own same members own (behind same members made s).node
      → AreHeld same members held (made ++ made_in same members me own packets (behind same members made s)) s
  are_held own packets made [] s is = tt
  are_held own packets made (e ∷ es) s is =
      let t : Viewed B = behind same members made s in
      let mine : List (Event B) = made_own same members own t.node in
      let since : List (Event B) = made_of same members me packets (behind same members mine t).node in
      let at : behind same members (made ++ mine) s ≡ behind same members mine t = behind_all same members made mine s in
      record {
        front = made ++ mine;
        since = since;
        all = sym (append_assoc made mine since);
        full = subst (λ (z : Viewed B). is_full_refused same e z.node ≡ true) (sym at) (first_held own t e es (sym is));
        no_act = subst (λ z. gained_in same members since z ≡ []) (sym at) (none_gained packets (behind same members mine t));
      }
