use Rattle.std.proofs.Common.{◌≡◌, ℕ, cond, nat_eq, nat_cmp, None, take}
use Rattle.std.specs.List.{list_any}
use Rattle.std.specs.BTreeMap.{get, IsOrdered}
use Rattle.realm_lists.proofs.ordered_list.gather.Given as goal

-- what is at the places so far is found
abbrev pub invariant-loop-place : goal.invariant-loop-place
invariant-loop-place g l = record {
  found : (q : ℕ) → get nat_cmp l.found q ≡ cond (list_any (nat_eq q) (take l.place-index l.places)) (get nat_cmp l.rows q) None;
  ordered : IsOrdered nat_cmp l.found;
}
