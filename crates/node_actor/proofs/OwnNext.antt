-- A round makes its own events, one after another, of which the last ones may be tried only.
use Rattle.std.proofs.Common.{◌≡◌, ℕ, Bool, true, false, List, [], ◌∷◌, ◌++◌, length, reverse, ap, sym, subst, ◌∙◌, refl, ⊎_elim}
use Rattle.std.proofs.Common.{Option, Some, None, Result, Ok}
use Rattle.std.proofs.lemmas.List.{append_assoc, append-nil, nil_from_length}
use Rattle.paxos_packets.specs.declared.rows.Rows.{Rows}
use Rattle.replica_machine.specs.Replay.{Steps}
use Rattle.paxos_node.specs.declared.event.Event.{Event}
use Rattle.paxos_node.specs.Events.{outcome_of}
use Rattle.paxos_node.specs.View.{Viewed}
use Rattle.paxos_planning.specs.Node.{NodeState}
use Rattle.actor_parts.specs.declared.fault.ActorFault.{ActorFault}
use Rattle.node_actor.specs.Actor.{Acting}
use Rattle.node_actor.specs.Calls.{has_no_room, has_no_round}
use Rattle.node_actor.specs.EventLists.{behind}
use Rattle.node_actor.specs.MidRound.{Heads, IsNext, MakesNext, MakesOwn, Under}
use Rattle.node_actor.specs.Rounds.{held_own, made_own}
use Rattle.node_actor.specs.Views.{seen}
use Rattle.node_actor.proofs.EventLists.{behind_more}
use Rattle.node_actor.proofs.OwnEvents.{last_first}
use Rattle.node_actor.proofs.MadeEvents.{all_held, ends_own, holds_own, makes_own, passes_held, passes_own}

module _ {B S Y M K : Type 0} (same : B → B → Bool) (steps : Steps B S Y) (content : M → S) (loaded : List ℕ → Option S)
    (holds : K → Rows B → Type 0) (finds : K → Rows B → Type 0) (failures : K → ℕ) (own : List (Event B)) (old : Acting B M K) (start : List Y) where
  abbrev n : ℕ
  n = old.node.members

  abbrev s : Viewed B
  s = seen old.seat

  abbrev Comes : List (Event B) → List (Event B) → Acting B M K → List Y → Type 0
  Comes all tried now says = Heads same steps content loaded holds finds failures old old.seat start all tried [] now says

  -- so far it came to some events, and these are left
  pub record SoFar (left tried : List (Event B)) (now : Acting B M K) (says : List Y) : Type 0 where
    pub all : List (Event B)
    pub heads : Comes all tried now says
    pub makes : made_own same n own s.node ≡ all ++ made_own same n left (behind same n all s).node
    pub holds_back : held_own same n own s.node ≡ held_own same n left (behind same n all s).node

  -- it came to none yet
  pub so_first : (tried : List (Event B)) → tried ≡ [] → Under same steps content loaded holds finds failures old old.seat [] [] [] old old.seat
      → SoFar own tried old start
  so_first tried none u =
      record {
        all = [];
        heads = record { made = []; said = []; under = u; all_are = sym none; are = sym (append-nil start) };
        makes = refl;
        holds_back = refl;
      }

  -- events that leave a list from its end on are left the other way round
  pub so_last : (items left : List (Event B)) (e : Event B) (tried : List (Event B)) (now : Acting B M K) (says : List Y) → items ≡ left ++ e ∷ []
      → SoFar (reverse items) tried now says → SoFar (e ∷ reverse left) tried now says
  so_last items left e tried now says is f = subst (λ (es : List (Event B)). SoFar es tried now says) (last_first items left e is) f

  module _ (e : Event B) (left was_tried : List (Event B)) (mid : Acting B M K) (was : List Y) (f : SoFar (e ∷ left) was_tried mid was) where
    abbrev here_now : NodeState B
    here_now = (behind same n f.all s).node

    -- it is what comes next
    pub so_due : IsNext same steps content loaded holds finds failures e own f.all (made_own same n (e ∷ left) here_now) [] old old.seat
    so_due =
        record {
          due = sym f.makes ∙ sym (append-nil (made_own same n own s.node));
          first = λ some_round some_room. (
            made_own same n left (outcome_of same n e here_now).node,
            makes_own same n e left here_now some_round
                some_room,
          );
        }

    abbrev Next : List (Event B) → Acting B M K → List Y → Result (Option (Event B)) (ActorFault Y) → Type 0
    Next tried now says result = MakesNext same steps content loaded holds finds failures e own old old.seat start f.all [] tried now says result

    -- it was made or tried, or passed over
    pub so_next : (tried : List (Event B)) (now : Acting B M K) (says : List Y) (back : Option (Event B)) → back ≡ None
        → Next tried now says (Ok back) → SoFar left tried now says
    so_next tried now says back none h =
        ⊎_elim (λ p. passed p.0 p.1) (λ p. made p.0 p.1 p.2) (subst (λ (o : Option (Event B)). Next tried now says (Ok o)) none h)
      where
        passed : has_no_round (Some e) here_now ≡ true → Comes f.all tried now says → SoFar left tried now says
        passed none c =
            record {
              all = f.all;
              heads = c;
              makes = f.makes ∙ ap (λ es. f.all ++ es) (passes_own same n e left here_now none);
              holds_back = f.holds_back ∙ passes_held same n e left here_now none;
            }

        made : has_no_round (Some e) here_now ≡ false
            → has_no_room same (Some e) here_now ≡ false → Comes (f.all ++ e ∷ []) tried now says
            → SoFar left tried now says
        made some_round some_room c =
            let next : (behind same n (f.all ++ e ∷ []) s).node ≡ (outcome_of same n e here_now).node =
            ap (λ (z : Viewed B). z.node) (behind_more same n f.all (Some e) s) in
            record {
              all = f.all ++ e ∷ [];
              heads = c;
              makes = f.makes ∙ ap (λ es. f.all ++ es) (makes_own same n e left here_now some_round some_room)
                  ∙ sym (append_assoc f.all (e ∷ []) (made_own same n left (outcome_of same n e here_now).node))
                  ∙ ap (λ x. (f.all ++ e ∷ []) ++ made_own same n left x) (sym next);
              holds_back = f.holds_back ∙ holds_own same n e left here_now some_round some_room ∙ ap (held_own same n left) (sym next);
            }

    -- there is no room for it
    pub so_full : (tried : List (Event B)) (now : Acting B M K) (says : List Y) (u : Unit {0}) (back : Option (Event B)) (it : Event B)
        → back ≡ Some it → Next tried now says (Ok back)
        → MakesOwn same steps content loaded holds finds failures own old start tried now says (Ok u) (it ∷ left)
    so_full tried now says u back it is m =
        let h : Next tried now says (Ok (Some it)) = subst (λ (o : Option (Event B)). Next tried now says (Ok o)) is m in
        let all_is : made_own same n own s.node ≡ f.all =
        f.makes ∙ ap (λ es. f.all ++ es) (ends_own same n e left here_now h.1) ∙ append-nil f.all in (
          subst (λ es. Comes es tried now says) (sym all_is) h.2,
          ap (λ x. x ∷ left) h.0 ∙ sym (f.holds_back ∙ all_held same n e left here_now h.1),
        )

  -- it is the last of a list again
  pub so_held : (tried : List (Event B)) (now : Acting B M K) (says : List Y) (u : Unit {0}) (items left : List (Event B)) (it : Event B)
      → items ≡ left ++ it ∷ []
      → MakesOwn same steps content loaded holds finds failures own old start tried now says (Ok u) (it ∷ reverse left)
      → MakesOwn same steps content loaded holds finds failures own old start tried now says (Ok u) (reverse items)
  so_held tried now says u items left it is m =
      subst (λ (es : List (Event B)). MakesOwn same steps content loaded holds finds failures own old start tried now says (Ok u) es)
      (sym (last_first items left it is)) m

  -- all are made or tried, and the list is empty
  pub so_all : (items later : List (Event B)) → items ≡ later ++ [] → length later ≡ 0 → (tried : List (Event B)) (now : Acting B M K)
      (says : List Y) (u : Unit {0}) → SoFar (reverse items) tried now says
      → MakesOwn same steps content loaded holds finds failures own old start tried now says (Ok u) (reverse later)
  so_all items later same_items size tried now says u g =
      let none : later ≡ [] = nil_from_length later size in
      let gone : items ≡ [] = same_items ∙ (append-nil later ∙ none) in
      let f : SoFar [] tried now says = subst (λ (es : List (Event B)). SoFar (reverse es) tried now says) gone g in
      let left : reverse later ≡ [] = ap (λ (es : List (Event B)). reverse es) none in
      (subst (λ es. Comes es tried now says) (sym (f.makes ∙ append-nil f.all)) f.heads, left ∙ sym f.holds_back)
