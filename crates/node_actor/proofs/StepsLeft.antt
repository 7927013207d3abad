-- The steps of events that were tried are taken at the table, one after another.
use Rattle.std.proofs.Common.{◌≡◌, ◌≤◌, ◌<◌, ℕ, suc, ◌+◌, ◌^◌, Bool, true, List, [], ◌∷◌, length, ap, sym, subst, ◌∙◌, arith}
use Rattle.std.proofs.Common.{Result, Ok, Err, get_or, lt-ltb}
use Rattle.std.specs.Prelude.{nat_lt, OnOk, drop}
use Rattle.std.specs.Result.{is_ok}
use Rattle.std.proofs.lemmas.Bool.{false≢true}
use Rattle.std.proofs.lemmas.List.{drop_more, length-drop, nil_from_length}
use Rattle.paxos_node.specs.Events.{outcome_of}
use Rattle.paxos_planning.specs.Node.{told_length}
use Rattle.actor_parts.specs.declared.tried.Tried.{Tried}
use Rattle.mail_table.specs.Boxes.{MayMake}
use Rattle.mail_table.specs.Seats.{Mailed, Owns, Seated, knows}
use Rattle.mail_table.specs.Views.{moving}
use Rattle.node_actor.specs.Posts.{advanced_all, advanced_by, AreSteps}

-- the rest of a list from its first element, and at its end

pub rest_from : {A : Type 0} (xs : List A) (i : ℕ) (x : A) → i < length xs → x ≡ get_or xs i x → drop i xs ≡ x ∷ drop (i + 1) xs
rest_from xs i x l e = drop_more xs i x l ∙ ap (λ y. y ∷ drop (i + 1) xs) (sym e)

pub rest_done : {A : Type 0} (xs : List A) (i : ℕ) → length xs ≤ i → drop i xs ≡ []
rest_done xs i l = let size = length-drop i xs in nil_from_length (drop i xs) (omega (arith, size, l))

on_ok_holds : {E : Type 0} (r : Result (Unit {0}) E) (P : Type 0) → is_ok r ≡ true → OnOk r P → P
on_ok_holds (Ok u) P is h = h
on_ok_holds (Err e) P is h = absurd (false≢true is)

module _ {B : Type 0} (same : B → B → Bool) (m : Mailed) where
  -- the steps of these events are left at the seat, and lead to this one
  pub record StepsLeft (ts : List (Tried B)) (s last : Seated B) : Type 0 where
    pub owned : Owns m s
    pub may : AreSteps same s.members ts s.part
    pub counts : s.part.events + length ts ≤ 2 ^ 62
    pub leads : advanced_all same ts s ≡ last

  module _ (t : Tried B) (ts : List (Tried B)) (s last : Seated B) (left : StepsLeft (t ∷ ts) s last) where
    members_are : s.members ≡ m.members
    members_are = left.owned.2

    -- the first of them may be taken
    pub first_may : MayMake m.members s.part t.event
    first_may = subst (λ n. MayMake n s.part t.event) members_are left.may.0

    pub first_log : t.log ≡ told_length (outcome_of same m.members t.event s.part.seen.node).node
    first_log = subst (λ n. t.log ≡ told_length (outcome_of same n t.event s.part.seen.node).node) members_are left.may.1

    -- it is taken, since the word counts it
    pub steps_next : {E : Type 0} (r : Result (Unit {0}) E) (u : Seated B) → is_ok r ≡ nat_lt s.part.events (2 ^ 62)
        → OnOk r (u ≡ knows (moving (outcome_of same m.members t.event s.part.seen.node).node
        (outcome_of same m.members t.event s.part.seen.node).packets s.part) s)
        → StepsLeft ts u last
    steps_next r u exactly moved =
        let few : s.part.events + suc (length ts) ≤ 2 ^ 62 = left.counts in
        let less : s.part.events < 2 ^ 62 = omega (arith, few) in
        let is : u ≡ advanced_by same t.event s =
        on_ok_holds r (u ≡ knows (moving (outcome_of same m.members t.event s.part.seen.node).node
        (outcome_of same m.members t.event s.part.seen.node).packets s.part) s) (exactly ∙ lt-ltb s.part.events (2 ^ 62) less) moved
        ∙ ap (λ n. knows (moving (outcome_of same n t.event s.part.seen.node).node (outcome_of same n t.event s.part.seen.node).packets s.part) s)
        (sym members_are) in
        let fewer : suc s.part.events + length ts ≤ 2 ^ 62 = omega (arith, few) in
        subst (λ (z : Seated B). StepsLeft ts z last) (sym is)
        (record { owned = left.owned; may = left.may.2; counts = fewer; leads = left.leads })
