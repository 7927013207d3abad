-- Ascending slots, one vote after the other.
use Rattle.std.proofs.Common.{◌≡◌, ℕ, ◌<◌, List, [], ◌∷◌, map, sym, subst}
use Rattle.std.specs.declared.cmp.Ordering.TheVariants.{Less}
use Rattle.std.specs.Cmp.{nat_cmp_is, ranks}
use Rattle.std.specs.List.{AllByRecursion}
use Rattle.std.specs.List.Sorted.{IsStrictlySortedBy}
use Rattle.std.specs.Ordering.{nat_cmp, MatchOrdering}
use Rattle.paxos_packets.specs.Vote.{IsAscending}
use Rattle.paxos_packets.specs.declared.vote.Vote.{Vote}

-- every vote is for a later slot
abbrev pub AllAfter : {B : Type 0} → ℕ → List (Vote B) → Type 0
AllAfter slot votes = AllByRecursion (λ v. slot < v.slot) votes

-- each vote comes before those after it
abbrev pub Ascends : {B : Type 0} → List (Vote B) → Type 0
Ascends [] = Unit {0}
Ascends (v ∷ vs) = AllAfter v.slot vs × Ascends vs

less : (x y : ℕ) → nat_cmp x y ≡ Less → x < y
less x y e = subst (λ o. MatchOrdering o (x < y) (x ≡ y) (y < x)) e (ranks x y)

is_less : (x y : ℕ) → x < y → nat_cmp x y ≡ Less
is_less x y l = sym (nat_cmp_is x y Less l)

pub ascends : {B : Type 0} (vs : List (Vote B)) → IsAscending vs → Ascends vs
unfolding IsStrictlySortedBy
ascends [] h = tt
ascends {B} (v ∷ vs) h = (after vs h.0, ascends vs h.1)
  where
    after : (ws : List (Vote B)) → AllByRecursion (λ s. nat_cmp v.slot s ≡ Less) (map (λ w. w.slot) ws) → AllAfter v.slot ws
    after [] h = tt
    after (w ∷ ws) h = (less v.slot w.slot h.0, after ws h.1)

pub ascending : {B : Type 0} (vs : List (Vote B)) → Ascends vs → IsAscending vs
unfolding IsStrictlySortedBy
ascending [] h = tt
ascending {B} (v ∷ vs) h = (after vs h.0, ascending vs h.1)
  where
    after : (ws : List (Vote B)) → AllAfter v.slot ws → AllByRecursion (λ s. nat_cmp v.slot s ≡ Less) (map (λ w. w.slot) ws)
    after [] h = tt
    after (w ∷ ws) h = (is_less v.slot w.slot h.0, after ws h.1)

-- and none at all
pub none_ascends : IsStrictlySortedBy nat_cmp []
unfolding IsStrictlySortedBy
none_ascends = tt
