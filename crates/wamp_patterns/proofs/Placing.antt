-- The keys of entries stay in order if one is put or taken out.
use Rattle.std.proofs.Common.{◌≡◌, Bool, true, false, cond, Ordering, List, [], ◌∷◌, refl, ap, ◌∙◌}
use Rattle.std.specs.declared.cmp.Ordering.TheVariants.{Less, Equal, Greater}
use Rattle.std.specs.Ordering.{ordering_reverse, match_ordering}
use Rattle.std.specs.Cmp.{IsTotalOrder}
use Rattle.std.specs.List.{AllByRecursion}
use Rattle.std.specs.List.Sorted.{IsStrictlySortedBy}
use Rattle.std.specs.Map.{keys_of, remove_entry}
use Rattle.std.specs.BTreeMap.{insert_entry}

pub all_more : {K : Type 0} {P Q : K → Type 0} → ((x : K) → P x → Q x) → (ks : List K) → AllByRecursion P ks → AllByRecursion Q ks
all_more f [] all = tt
all_more f (x ∷ ks) all = (f x all.0, all_more f ks all.1)

module _ {K V : Type 0} {cmp : K → K → Ordering} (total : IsTotalOrder cmp) (k : K) where
  all_put : (P : K → Type 0) (v : V) (es : List (K × V)) → P k → AllByRecursion P (keys_of es)
      → AllByRecursion P (keys_of (insert_entry cmp es k v))
  all_put P v [] p all = (p, tt)
  all_put P v (e ∷ es) p all = go (cmp k e.0) (all_put P v es p all.1)
    where
      go : (o : Ordering) → AllByRecursion P (keys_of (insert_entry cmp es k v))
          → AllByRecursion P (keys_of (match_ordering o ((k, v) ∷ e ∷ es) ((e.0, v) ∷ es) (e ∷ insert_entry cmp es k v)))
      go Less rest = (p, all)
      go Equal rest = all
      go Greater rest = (all.0, rest)

  pub sorted_put : (v : V) (es : List (K × V)) → IsStrictlySortedBy cmp (keys_of es) → IsStrictlySortedBy cmp (keys_of (insert_entry cmp es k v))
  unfolding IsStrictlySortedBy
  sorted_put v [] s = (tt, tt)
  sorted_put v (e ∷ es) s = go (cmp k e.0) refl (sorted_put v es s.1)
    where
      go : (o : Ordering) → cmp k e.0 ≡ o → IsStrictlySortedBy cmp (keys_of (insert_entry cmp es k v))
          → IsStrictlySortedBy cmp (keys_of (match_ordering o ((k, v) ∷ e ∷ es) ((e.0, v) ∷ es) (e ∷ insert_entry cmp es k v)))
      go Less h rest = ((h, all_more (λ y l. total.trans k e.0 y h l) (keys_of es) s.0), s)
      go Equal h rest = s
      go Greater h rest = (all_put (λ y. cmp e.0 y ≡ Less) v es (total.antisymm e.0 k ∙ ap ordering_reverse h) s.0, rest)

all_removed : {K V : Type 0} (P : K → Type 0) (test : K → Bool) (es : List (K × V)) → AllByRecursion P (keys_of es)
    → AllByRecursion P (keys_of (remove_entry test es))
all_removed P test [] all = tt
all_removed P test (e ∷ es) all = go (test e.0) (all_removed P test es all.1)
  where
    go : (b : Bool) → AllByRecursion P (keys_of (remove_entry test es)) → AllByRecursion P (keys_of (cond b es (e ∷ remove_entry test es)))
    go true rest = all.1
    go false rest = (all.0, rest)

pub sorted_removed : {K V : Type 0} (cmp : K → K → Ordering) (test : K → Bool) (es : List (K × V)) → IsStrictlySortedBy cmp (keys_of es)
    → IsStrictlySortedBy cmp (keys_of (remove_entry test es))
unfolding IsStrictlySortedBy
sorted_removed cmp test [] s = tt
sorted_removed cmp test (e ∷ es) s = go (test e.0) (sorted_removed cmp test es s.1)
  where
    go : (b : Bool) → IsStrictlySortedBy cmp (keys_of (remove_entry test es))
        → IsStrictlySortedBy cmp (keys_of (cond b es (e ∷ remove_entry test es)))
    go true rest = s.1
    go false rest = (all_removed (λ y. cmp e.0 y ≡ Less) test es s.0, rest)
