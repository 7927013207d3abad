-- Under which id a pattern is kept, once one was put or taken out.
use Rattle.std.proofs.Common.{◌≡◌, ℕ, Bool, true, false, cond, Option, Some, None, Ordering, List, [], ◌∷◌, refl, ap, sym, ◌∙◌}
use Rattle.std.specs.declared.cmp.Ordering.TheVariants.{Less, Equal, Greater}
use Rattle.std.specs.Ordering.{is_eq, match_ordering}
use Rattle.std.specs.BTreeMap.{insert_entry}
use Rattle.std.specs.Map.{keys_of, remove_entry}
use Rattle.std.proofs.lemmas.Cmp.{eq_by_cmp_equiv}
use Rattle.std.proofs.lemmas.Map.{lookup-remove_entry}
use Rattle.std.proofs.lemmas.Map.Keys.{IsDistinct-from_sorted}
use Rattle.wamp_ids.specs.Pattern.{PatternValue}
use Rattle.wamp_patterns.specs.Table.{AreInOrder, pattern_cmp, same_pattern}
use Rattle.wamp_patterns.proofs.Order.{kept_as_one, pattern_total}
use Rattle.realm_groups.specs.Groups.{id_at}
use Rattle.realm_groups.proofs.Rows.{two_ways}

pub the_same : (a b : PatternValue) → same_pattern a b ≡ true → a ≡ b
the_same a b h = (kept_as_one a b).0 h

pub same_itself : (a b : PatternValue) → a ≡ b → same_pattern a b ≡ true
same_itself a b h = (kept_as_one a b).1 h

pub turned_round : (a b : PatternValue) → same_pattern a b ≡ same_pattern b a
turned_round a b = two_ways (same_pattern a b) (same_pattern b a)
    (λ h. same_itself b a (sym (the_same a b h))) (λ h. same_itself a b (sym (the_same b a h)))

equal_is : (a b : PatternValue) (o : Ordering) → pattern_cmp a b ≡ o → o ≡ Equal → a ≡ b
equal_is a b o h is = the_same a b (ap is_eq (h ∙ is))

twice : (b : Bool) (x y z : Option ℕ) → cond b x (cond b y z) ≡ cond b x z
twice true x y z = refl
twice false x y z = refl

apart : (a b : Bool) → (a ≡ true → b ≡ true → false ≡ true) → (x y z : Option ℕ) → cond b y (cond a x z) ≡ cond a x (cond b y z)
apart true true n x y z = cc (n refl refl)
apart true false n x y z = refl
apart false true n x y z = refl
apart false false n x y z = refl

put_step : (e : PatternValue × ℕ) (es rest : List (PatternValue × ℕ)) (k : PatternValue) (v : ℕ) (q : PatternValue) (o : Ordering)
    → pattern_cmp k e.0 ≡ o → id_at rest q ≡ cond (same_pattern q k) (Some v) (id_at es q)
    → id_at (match_ordering o ((k, v) ∷ e ∷ es) ((e.0, v) ∷ es) (e ∷ rest)) q
    ≡ cond (same_pattern q k) (Some v) (cond (same_pattern q e.0) (Some e.1) (id_at es q))
put_step e es rest k v q Less p h = refl
put_step e es rest k v q Equal p h =
    let same : k ≡ e.0 = equal_is k e.0 Equal p refl in
    ap (λ x. cond (same_pattern q x) (Some v) (id_at es q)) (sym same)
    ∙ sym (twice (same_pattern q k) (Some v) (Some e.1) (id_at es q))
    ∙ ap (λ x. cond (same_pattern q k) (Some v) (cond (same_pattern q x) (Some e.1) (id_at es q))) same
put_step e es rest k v q Greater p h =
    ap (λ o. cond (same_pattern q e.0) (Some e.1) o) h
    ∙ apart (same_pattern q k) (same_pattern q e.0)
    (λ a b. ap is_eq (sym p) ∙ ap (λ x. same_pattern x e.0) (sym (the_same q k a)) ∙ b)
    (Some v) (Some e.1) (id_at es q)

pub id_at_put : (es : List (PatternValue × ℕ)) (k : PatternValue) (v : ℕ) (q : PatternValue)
    → id_at (insert_entry pattern_cmp es k v) q ≡ cond (same_pattern q k) (Some v) (id_at es q)
id_at_put [] k v q = refl
id_at_put (e ∷ es) k v q = put_step e es (insert_entry pattern_cmp es k v) k v q (pattern_cmp k e.0) refl (id_at_put es k v q)

pub id_at_removed : (es : List (PatternValue × ℕ)) (k q : PatternValue) → AreInOrder es
    → id_at (remove_entry (same_pattern k) es) q ≡ cond (same_pattern k q) None (id_at es q)
id_at_removed es k q s = lookup-remove_entry (eq_by_cmp_equiv pattern_total) (same_pattern k)
    (λ x y h. ap (λ z. same_pattern z y) (the_same k x h)) q es (IsDistinct-from_sorted pattern_cmp (keys_of es) s)

back_step : (es : List (PatternValue × ℕ)) (k : PatternValue) (v : ℕ) (q : PatternValue) (b : Bool) → same_pattern k q ≡ b → id_at es k ≡ None
    → cond b None (cond (same_pattern q k) (Some v) (id_at es q)) ≡ id_at es q
back_step es k v q true h none = sym (ap (id_at es) (sym (the_same k q h)) ∙ none)
back_step es k v q false h none = ap (λ b. cond b (Some v) (id_at es q)) (turned_round q k ∙ h)

-- a pattern that was put is taken out again
pub back_again : (es between after : List (PatternValue × ℕ)) (k : PatternValue) (v : ℕ) (q : PatternValue) → id_at es k ≡ None
    → between ≡ insert_entry pattern_cmp es k v → AreInOrder between → after ≡ remove_entry (same_pattern k) between
    → id_at after q ≡ id_at es q
back_again es between after k v q none put ordered removed =
    ap (λ xs. id_at xs q) removed ∙ id_at_removed between k q ordered
    ∙ ap (λ o. cond (same_pattern k q) None o) (ap (λ xs. id_at xs q) put ∙ id_at_put es k v q)
    ∙ back_step es k v q (same_pattern k q) refl none
