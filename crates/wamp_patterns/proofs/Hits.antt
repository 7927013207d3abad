-- What a search by kinds finds among the texts of one match: the best of those that match, and all of them.
use Rattle.std.proofs.Common.{◌≡◌, ℕ, ◌+◌, ◌≤◌, Bool, true, false, cond, ◌||◌, Option, Some, None, is_some, Ordering}
use Rattle.std.proofs.Common.{List, [], ◌∷◌, length, filter, eqb, refl, ap, sym, subst, ◌∙◌, arith}
use Rattle.std.specs.declared.cmp.Ordering.TheVariants.{Less, Equal, Greater}
use Rattle.std.specs.Ordering.{is_eq, is_lt, ordering_reverse}
use Rattle.std.specs.List.{AllByRecursion, count_by, list_any}
use Rattle.std.specs.List.Sorted.{IsStrictlySortedBy}
use Rattle.std.specs.Map.{keys_of, lookup}
use Rattle.std.proofs.lemmas.Bool.Decides.{nat_tests}
use Rattle.std.proofs.lemmas.Cmp.{nat_list_cmp_total}
use Rattle.std.proofs.lemmas.List.Sums.{sum_by-cons}
use Rattle.std.proofs.lemmas.Map.Entries.{lookup-filter-keys}
use Rattle.std.proofs.lemmas.Map.Lookups.{exact_bytes}
use Rattle.wamp_ids.specs.declared.policy.Match.{Match}
use Rattle.wamp_ids.specs.Uri.{parts, is_empty}
use Rattle.wamp_patterns.specs.Matching.{text_matches}
use Rattle.wamp_patterns.specs.Ranking.{text_is_better}
use Rattle.wamp_patterns.specs.Kinds.{Tells, all_found, filled, first_found, first_of, found_kind, found_text, how_many, kind, positive, with_text, with_value}
use Rattle.wamp_patterns.specs.Texts.{AreTextsInOrder, same_text, text_cmp}
use Rattle.wamp_patterns.proofs.Filling.{it_matches, no_better, of_its_kind, only_one}
use Rattle.wamp_patterns.proofs.Keyed.{lookup_put, none_found, same_itself, the_same}
use Rattle.wamp_patterns.proofs.Placing.{all_more, sorted_put}

some_value : {A : Type 0} {x y : A} → Some x ≡ Some y → x ≡ y
some_value h = cc

pub option_cases : {A P : Type 0} (o : Option A) → (o ≡ None → P) → ((x : A) → o ≡ Some x → P) → P
option_cases None f g = f refl
option_cases (Some x) f g = g x refl

bool_cases : {P : Type 0} (b : Bool) → (b ≡ true → P) → (b ≡ false → P) → P
bool_cases true f g = f refl
bool_cases false f g = g refl

abbrev is_among : List ℕ → List (List ℕ) → Bool
is_among k ks = list_any (same_text k) ks

pub not_some : {P A : Type 0} (x : A) → None ≡ Some x → P
not_some x h = cc

-- ---- which kinds occur

among_keys : {W : Type 0} (k : List ℕ) (es : List (List ℕ × W)) → is_among k (keys_of es) ≡ is_some (lookup (same_text k) es)
among_keys k [] = refl
among_keys k (e ∷ es) = go (same_text k e.0) (among_keys k es)
  where
    go : (b : Bool) → list_any (same_text k) (keys_of es) ≡ is_some (lookup (same_text k) es)
        → (b || list_any (same_text k) (keys_of es)) ≡ is_some (cond b (Some e.1) (lookup (same_text k) es))
    go true h = refl
    go false h = h

positive_some : (n : ℕ) → 1 ≤ n → is_some (positive n) ≡ true
positive_some n l = ap (λ b. is_some (cond b None (Some n))) (no n l)
  where
    no : (n : ℕ) → 1 ≤ n → eqb n 0 ≡ false
    no n l = grind (arith, nat_tests)

some_positive : (n : ℕ) → is_some (positive n) ≡ true → 1 ≤ n
some_positive n h = go (eqb n 0) refl h
  where
    above : (n : ℕ) → eqb n 0 ≡ false → 1 ≤ n
    above n h = grind (arith, nat_tests)

    go : (b : Bool) → eqb n 0 ≡ b → is_some (cond b None (Some n)) ≡ true → 1 ≤ n
    go true e h = cc
    go false e h = above n e

module _ {V : Type 0} (p : List ℕ → Bool) where
  at_least_one : (es : List (List ℕ × V)) (q : List ℕ) (v : V) → lookup (same_text q) es ≡ Some v → p q ≡ true → 1 ≤ count_by (λ e. p e.0) es
  at_least_one [] q v h t = cc
  at_least_one (e ∷ es) q v h t = subst (λ n. 1 ≤ n) (sym (sum_by-cons (λ x. cond (p x.0) 1 0) e es)) (go (same_text q e.0) refl h (λ g. at_least_one es q v g t))
    where
      here : (b : Bool) → b ≡ true → 1 ≤ cond b 1 0 + count_by (λ x. p x.0) es
      here true f = omega arith
      here false f = cc

      go : (b : Bool) → same_text q e.0 ≡ b → cond b (Some e.1) (lookup (same_text q) es) ≡ Some v
          → (lookup (same_text q) es ≡ Some v → 1 ≤ count_by (λ x. p x.0) es) → 1 ≤ cond (p e.0) 1 0 + count_by (λ x. p x.0) es
      go true f g rest = here (p e.0) (ap p (sym (the_same q e.0 f)) ∙ t)
      go false f g rest = let l : 1 ≤ count_by (λ x. p x.0) es = rest g in omega arith

  some_one : (es : List (List ℕ × V)) → 1 ≤ count_by (λ e. p e.0) es → (w : List ℕ) × (p w ≡ true)
  some_one [] l = absurd (omega arith)
  some_one (e ∷ es) l = go (p e.0) refl (subst (λ n. 1 ≤ n) (sum_by-cons (λ x. cond (p x.0) 1 0) e es) l) (λ k. some_one es k)
    where
      go : (b : Bool) → p e.0 ≡ b → 1 ≤ cond b 1 0 + count_by (λ x. p x.0) es → (1 ≤ count_by (λ x. p x.0) es → (w : List ℕ) × (p w ≡ true))
          → (w : List ℕ) × (p w ≡ true)
      go true f m rest = (e.0, f)
      go false f m rest = rest (omega arith)

is_less : (o : Ordering) → is_lt o ≡ true → o ≡ Less
is_less Less h = refl
is_less Equal h = cc
is_less Greater h = cc

-- what comes before a kind is none of those after it
none_before : (j k : List ℕ) → text_cmp j k ≡ Less → (xs : List (List ℕ)) → AllByRecursion (λ y. text_cmp k y ≡ Less) xs
    → list_any (same_text j) xs ≡ true → false ≡ true
none_before j k less [] all a = a
none_before j k less (x ∷ xs) all a = go (same_text j x) refl a (λ t. none_before j k less xs all.1 t)
  where
    go : (b : Bool) → same_text j x ≡ b → (b || list_any (same_text j) xs) ≡ true → (list_any (same_text j) xs ≡ true → false ≡ true) → false ≡ true
    go true f t rest = sym (ap is_eq (nat_list_cmp_total.trans j k x less all.0)) ∙ f
    go false f t rest = rest t

module _ {V : Type 0} (m : Match) (texts : List (List ℕ × V)) (u : List ℕ) where
  -- nothing is found for any of the kinds
  none_first : (ks : List (List ℕ)) → first_found m texts u ks ≡ None → (k : List ℕ) → is_among k ks ≡ true → found_kind m texts u k ≡ None
  none_first [] h k a = cc
  none_first (j ∷ ks) h k a = go (found_kind m texts u j) refl h (same_text k j) refl a (λ f t. none_first ks f k t)
    where
      go : (o : Option V) → found_kind m texts u j ≡ o → first_of o (first_found m texts u ks) ≡ None → (b : Bool) → same_text k j ≡ b
          → (b || list_any (same_text k) ks) ≡ true
          → (first_found m texts u ks ≡ None → list_any (same_text k) ks ≡ true → found_kind m texts u k ≡ None) → found_kind m texts u k ≡ None
      go None e f true s t rest = ap (found_kind m texts u) (the_same k j s) ∙ e
      go None e f false s t rest = rest f t
      go (Some v) e f b s t rest = cc

  -- the first kind that gives something
  pub record FirstKind (ks : List (List ℕ)) (v : V) : Type 0 where
    pub place : List ℕ
    pub among : is_among place ks ≡ true
    pub gives : found_kind m texts u place ≡ Some v
    pub before : (j : List ℕ) → is_among j ks ≡ true → is_lt (text_cmp j place) ≡ true → found_kind m texts u j ≡ None

  some_first : (ks : List (List ℕ)) (v : V) → IsStrictlySortedBy text_cmp ks → first_found m texts u ks ≡ Some v → FirstKind ks v
  unfolding IsStrictlySortedBy
  some_first [] v s h = cc
  some_first (k ∷ ks) v s h = go (found_kind m texts u k) refl h (λ f. some_first ks v s.1 f)
    where
      not_less : (j : List ℕ) (b : Bool) → same_text j k ≡ b → (b || list_any (same_text j) ks) ≡ true → is_lt (text_cmp j k) ≡ true → false ≡ true
      not_less j true e a l = sym (ap is_lt (ap (λ x. text_cmp x k) (the_same j k e) ∙ self k)) ∙ l
        where
          self : (x : List ℕ) → text_cmp x x ≡ Equal
          self x = equal (text_cmp x x) (same_itself x)
            where
              equal : (o : Ordering) → is_eq o ≡ true → o ≡ Equal
              equal Less h = cc
              equal Equal h = refl
              equal Greater h = cc
      not_less j false e a l = none_before j k (is_less (text_cmp j k) l) ks s.0 a

      go : (o : Option V) → found_kind m texts u k ≡ o → first_of o (first_found m texts u ks) ≡ Some v
          → (first_found m texts u ks ≡ Some v → FirstKind ks v) → FirstKind (k ∷ ks) v
      go (Some w) e f more = record {
        place = k;
        among = ap (λ b. b || list_any (same_text k) ks) (same_itself k);
        gives = e ∙ f;
        before = λ j a l. let bad : false ≡ true = not_less j (same_text j k) refl a l in cc;
      }
      go None e f more =
          let rest : FirstKind ks v = more f in
          record {
            place = rest.place;
            among = or_right (same_text rest.place k) _ rest.among;
            gives = rest.gives;
            before = λ j a l. earlier j (same_text j k) refl a rest l;
          }
        where
          or_right : (a b : Bool) → b ≡ true → (a || b) ≡ true
          or_right true b h = refl
          or_right false b h = h

          earlier : (j : List ℕ) (b : Bool) → same_text j k ≡ b → (b || list_any (same_text j) ks) ≡ true → (rest : FirstKind ks v)
              → is_lt (text_cmp j rest.place) ≡ true → found_kind m texts u j ≡ None
          earlier j true s a rest l = ap (found_kind m texts u) (the_same j k s) ∙ e
          earlier j false s a rest l = rest.before j a l

module _ {V : Type 0} (m : Match) (texts : List (List ℕ × V)) (kinds : List (List ℕ × ℕ)) (u : List ℕ) (tells : Tells m texts kinds) where
  -- the kind of a text occurs
  stands : (q : List ℕ) (v : V) → lookup (same_text q) texts ≡ Some v → is_among (kind m q) (keys_of kinds) ≡ true
  stands q v h =
      among_keys (kind m q) kinds ∙ ap is_some (tells (kind m q))
      ∙ positive_some (how_many m texts (kind m q))
      (at_least_one (λ x. same_text (kind m q) (kind m x)) texts q v h (same_itself (kind m q)))

  -- what occurs is the kind of a text
  of_some : (k : List ℕ) → is_among k (keys_of kinds) ≡ true → (w : List ℕ) × (k ≡ kind m w)
  of_some k a =
      let one : (w : List ℕ) × (same_text k (kind m w) ≡ true) = some_one (λ x. same_text k (kind m x)) texts
      (some_positive (how_many m texts k) (sym (among_keys k kinds ∙ ap is_some (tells k)) ∙ a)) in
      (one.0, the_same k (kind m one.0) one.1)

  module _ (short : length u ≤ 1024) where
    -- a text that matches is found by its kind
    by_kind : (q : List ℕ) → text_matches m q u ≡ true → found_kind m texts u (kind m q) ≡ lookup (same_text q) texts
    by_kind q h = ap (found_text m texts) (only_one m q u short h)

    -- if nothing is found, nothing matches
    pub nothing : first_found m texts u (keys_of kinds) ≡ None → (q : List ℕ) (v : V) → lookup (same_text q) texts ≡ Some v
        → text_matches m q u ≡ false
    nothing h q v f = bool_cases (text_matches m q u)
        (λ t. not_some v (sym (none_first m texts u (keys_of kinds) h (kind m q) (stands q v f)) ∙ by_kind q t ∙ f))
        (λ t. t)

    -- v is the value of a text that matches and that no other beats
    pub record Best (v : V) : Type 0 where
      pub text : List ℕ
      pub value : lookup (same_text text) texts ≡ Some v
      pub fits : text_matches m text u ≡ true
      pub unbeaten : (q : List ℕ) (w : V) → lookup (same_text q) texts ≡ Some w → text_matches m q u ≡ true → text_is_better m q m text ≡ false

    pub best : list_any is_empty (parts u) ≡ false → AreTextsInOrder kinds → (v : V) → first_found m texts u (keys_of kinds) ≡ Some v → Best v
    best named ordered v h = from (some_first m texts u (keys_of kinds) v ordered h)
      where
        from : FirstKind m texts u (keys_of kinds) v → Best v
        from f = go (filled m f.place u) refl f.gives (of_some f.place f.among)
          where
            order : (t : List ℕ) → kind m t ≡ f.place → (q : List ℕ) (w : V) → lookup (same_text q) texts ≡ Some w → text_matches m q u ≡ true
                → is_lt (text_cmp (kind m q) (kind m t)) ≡ false
            order t e q w x y = ap (λ k. is_lt (text_cmp (kind m q) k)) e ∙ bool_cases (is_lt (text_cmp (kind m q) f.place))
                (λ l. not_some w (sym (f.before (kind m q) (stands q w x) l) ∙ by_kind q y ∙ x))
                (λ n. n)

            go : (o : Option (List ℕ)) → filled m f.place u ≡ o → found_text m texts o ≡ Some v → (w : List ℕ) × (f.place ≡ kind m w) → Best v
            go None e g w = not_some v g
            go (Some t) e g w =
                let fit : text_matches m t u ≡ true = it_matches m f.place t u e in
                let kt : kind m t ≡ f.place = of_its_kind m w.0 t u named (ap (λ k. filled m k u) (sym w.1) ∙ e) ∙ sym w.1 in
                record {
                  text = t;
                  value = g;
                  fits = fit;
                  unbeaten = λ q x a b. no_better m q t u short b fit (order t kt q x a b);
                }

-- ---- all that match

-- the entries of which the text matches
abbrev pub hits : {V : Type 0} → Match → List ℕ → List (List ℕ × V) → List (List ℕ × V)
hits m u es = filter (λ e. text_matches m e.0 u) es

module _ {V : Type 0} (m : Match) (texts : List (List ℕ × V)) (u : List ℕ) where
  -- what was found is there and matches
  abbrev pub Good : List (List ℕ × V) → Type 0
  Good found = (q : List ℕ) (v : V) → lookup (same_text q) found ≡ Some v → (lookup (same_text q) texts ≡ Some v) × (text_matches m q u ≡ true)

  step_good : (k : List ℕ) (found : List (List ℕ × V)) → Good found → Good (with_text m texts (filled m k u) found)
  step_good k found good = go (filled m k u) refl
    where
      put : (t : List ℕ) → filled m k u ≡ Some t → (o : Option V) → lookup (same_text t) texts ≡ o → Good (with_value m texts t o found)
      put t e None f = good
      put t e (Some v) f = λ q w h. at q w (same_text q t) refl (sym (lookup_put found t v q) ∙ h)
        where
          at : (q : List ℕ) (w : V) (b : Bool) → same_text q t ≡ b → cond b (Some v) (lookup (same_text q) found) ≡ Some w
              → (lookup (same_text q) texts ≡ Some w) × (text_matches m q u ≡ true)
          at q w true s g =
              let same : q ≡ t = the_same q t s in
              (ap (λ x. lookup (same_text x) texts) same ∙ f ∙ g, ap (λ x. text_matches m x u) same ∙ it_matches m k t u e)
          at q w false s g = good q w g

      go : (o : Option (List ℕ)) → filled m k u ≡ o → Good (with_text m texts o found)
      go None e = good
      go (Some t) e = put t e (lookup (same_text t) texts) refl

  all_good : (ks : List (List ℕ)) (found : List (List ℕ × V)) → Good found → Good (all_found m texts u found ks)
  all_good [] found good = good
  all_good (k ∷ ks) found good = all_good ks (with_text m texts (filled m k u) found) (step_good k found good)

  step_kept : (o : Option (List ℕ)) (found : List (List ℕ × V)) (q : List ℕ) → is_some (lookup (same_text q) found) ≡ true
      → is_some (lookup (same_text q) (with_text m texts o found)) ≡ true
  step_kept None found q h = h
  step_kept (Some t) found q h = put (lookup (same_text t) texts)
    where
      put : (o : Option V) → is_some (lookup (same_text q) (with_value m texts t o found)) ≡ true
      put None = h
      put (Some v) = ap is_some (lookup_put found t v q) ∙ at (same_text q t)
        where
          at : (b : Bool) → is_some (cond b (Some v) (lookup (same_text q) found)) ≡ true
          at true = refl
          at false = h

  all_kept : (ks : List (List ℕ)) (found : List (List ℕ × V)) (q : List ℕ) → is_some (lookup (same_text q) found) ≡ true
      → is_some (lookup (same_text q) (all_found m texts u found ks)) ≡ true
  all_kept [] found q h = h
  all_kept (k ∷ ks) found q h = all_kept ks (with_text m texts (filled m k u) found) q (step_kept (filled m k u) found q h)

  got : (found : List (List ℕ × V)) (q : List ℕ) (v : V) → lookup (same_text q) texts ≡ Some v
      → is_some (lookup (same_text q) (with_text m texts (Some q) found)) ≡ true
  got found q v h =
      ap (λ o. is_some (lookup (same_text q) (with_value m texts q o found))) h
      ∙ ap is_some (lookup_put found q v q)
      ∙ ap (λ b. is_some (cond b (Some v) (lookup (same_text q) found))) (same_itself q)

  all_got : (ks : List (List ℕ)) (found : List (List ℕ × V)) (k q : List ℕ) (v : V) → is_among k ks ≡ true → filled m k u ≡ Some q
      → lookup (same_text q) texts ≡ Some v → is_some (lookup (same_text q) (all_found m texts u found ks)) ≡ true
  all_got [] found k q v a e h = cc
  all_got (j ∷ ks) found k q v a e h = go (same_text k j) refl a (λ t. all_got ks (with_text m texts (filled m j u) found) k q v t e h)
    where
      go : (b : Bool) → same_text k j ≡ b → (b || list_any (same_text k) ks) ≡ true
          → (list_any (same_text k) ks ≡ true → is_some (lookup (same_text q) (all_found m texts u (with_text m texts (filled m j u) found) ks)) ≡ true)
          → is_some (lookup (same_text q) (all_found m texts u (with_text m texts (filled m j u) found) ks)) ≡ true
      go true s t rest = all_kept ks (with_text m texts (filled m j u) found) q
          (ap (λ o. is_some (lookup (same_text q) (with_text m texts o found))) (ap (λ x. filled m x u) (sym (the_same k j s)) ∙ e)
          ∙ got found q v h)
      go false s t rest = rest t

  step_sorted : (o : Option (List ℕ)) (found : List (List ℕ × V)) → AreTextsInOrder found → AreTextsInOrder (with_text m texts o found)
  step_sorted None found s = s
  step_sorted (Some t) found s = put (lookup (same_text t) texts)
    where
      put : (o : Option V) → AreTextsInOrder (with_value m texts t o found)
      put None = s
      put (Some v) = sorted_put nat_list_cmp_total t v found s

  all_sorted : (ks : List (List ℕ)) (found : List (List ℕ × V)) → AreTextsInOrder found → AreTextsInOrder (all_found m texts u found ks)
  all_sorted [] found s = s
  all_sorted (k ∷ ks) found s = all_sorted ks (with_text m texts (filled m k u) found) (step_sorted (filled m k u) found s)

-- two lists in order in which each text has the same value are one
all_past : {V : Type 0} (k : List ℕ) (es : List (List ℕ × V)) → AllByRecursion (λ y. text_cmp k y ≡ Less) (keys_of es)
    → (q : List ℕ) → same_text q k ≡ true → lookup (same_text q) es ≡ None
all_past k es all q h = none_found (same_text q) es
    (all_more (λ y l. ap (λ x. same_text x y) (the_same q k h) ∙ ap is_eq l) (keys_of es) all)

pub one_list : {V : Type 0} (xs ys : List (List ℕ × V)) → AreTextsInOrder xs → AreTextsInOrder ys
    → ((q : List ℕ) → lookup (same_text q) xs ≡ lookup (same_text q) ys) → xs ≡ ys
unfolding IsStrictlySortedBy
one_list [] [] s t h = refl
one_list [] (y ∷ ys) s t h = not_some y.1 (h y.0 ∙ ap (λ b. cond b (Some y.1) (lookup (same_text y.0) ys)) (same_itself y.0))
one_list (x ∷ xs) [] s t h = not_some x.1 (sym (h x.0) ∙ ap (λ b. cond b (Some x.1) (lookup (same_text x.0) xs)) (same_itself x.0))
one_list {V = V} (x ∷ xs) (y ∷ ys) s t h = go (text_cmp x.0 y.0) refl (λ f. one_list xs ys s.1 t.1 f)
  where
    found : (z : List ℕ × V) (zs : List (List ℕ × V)) → lookup (same_text z.0) (z ∷ zs) ≡ Some z.1
    found z zs = ap (λ b. cond b (Some z.1) (lookup (same_text z.0) zs)) (same_itself z.0)

    absent : (a : List ℕ) (z : List ℕ × V) (zs : List (List ℕ × V)) → AreTextsInOrder (z ∷ zs) → text_cmp a z.0 ≡ Less
        → lookup (same_text a) (z ∷ zs) ≡ None
    absent a z zs o l = ap (λ b. cond b (Some z.1) (lookup (same_text a) zs)) (ap is_eq l)
        ∙ none_found (same_text a) zs (all_more (λ w p. ap is_eq (nat_list_cmp_total.trans a z.0 w l p)) (keys_of zs) o.0)

    go : (o : Ordering) → text_cmp x.0 y.0 ≡ o → (((q : List ℕ) → lookup (same_text q) xs ≡ lookup (same_text q) ys) → xs ≡ ys) → (x ∷ xs) ≡ (y ∷ ys)
    go Less e more = not_some x.1 (sym (absent x.0 y ys t e) ∙ sym (h x.0) ∙ found x xs)
    go Equal e more =
        let key : x.0 ≡ y.0 = exact_bytes x.0 y.0 e in
        let value : x.1 ≡ y.1 = some_value (sym (found x xs) ∙ h x.0 ∙ ap (λ k. lookup (same_text k) (y ∷ ys)) key ∙ found y ys) in
        let rest : xs ≡ ys = more (λ q. tails q key (same_text q x.0) refl) in
        λ i. (key i, value i) ∷ rest i
      where
        tails : (q : List ℕ) → x.0 ≡ y.0 → (b : Bool) → same_text q x.0 ≡ b → lookup (same_text q) xs ≡ lookup (same_text q) ys
        tails q key true f = all_past x.0 xs s.0 q f ∙ sym (all_past y.0 ys t.0 q (ap (same_text q) (sym key) ∙ f))
        tails q key false f =
            sym (ap (λ b. cond b (Some x.1) (lookup (same_text q) xs)) f) ∙ h q
            ∙ ap (λ b. cond b (Some y.1) (lookup (same_text q) ys)) (ap (same_text q) (sym key) ∙ f)
    go Greater e more = not_some y.1 (sym (absent y.0 x xs s (turned e)) ∙ h y.0 ∙ found y ys)
      where
        turned : text_cmp x.0 y.0 ≡ Greater → text_cmp y.0 x.0 ≡ Less
        turned f = nat_list_cmp_total.antisymm y.0 x.0 ∙ ap ordering_reverse f

fewer_hits : {V : Type 0} (p : List ℕ → Bool) (P : List ℕ → Type 0) (xs : List (List ℕ × V)) → AllByRecursion P (keys_of xs)
    → AllByRecursion P (keys_of (filter (λ x. p x.0) xs))
fewer_hits p P [] all = tt
fewer_hits {V = V} p P (x ∷ xs) all = at (p x.0) (fewer_hits p P xs all.1)
  where
    at : (b : Bool) → AllByRecursion P (keys_of (filter (λ z. p z.0) xs))
        → AllByRecursion P (keys_of (cond b (x ∷ filter (λ z. p z.0) xs) (filter (λ z. p z.0) xs)))
    at true rest = (all.0, rest)
    at false rest = rest

sorted_hits : {V : Type 0} (p : List ℕ → Bool) (es : List (List ℕ × V)) → AreTextsInOrder es → AreTextsInOrder (filter (λ e. p e.0) es)
unfolding IsStrictlySortedBy
sorted_hits p [] s = tt
sorted_hits {V = V} p (e ∷ es) s = go (p e.0) (sorted_hits p es s.1)
  where
    go : (b : Bool) → AreTextsInOrder (filter (λ x. p x.0) es) → AreTextsInOrder (cond b (e ∷ filter (λ x. p x.0) es) (filter (λ x. p x.0) es))
    go true rest = (fewer_hits p (λ y. text_cmp e.0 y ≡ Less) es s.0, rest)
    go false rest = rest

module _ {V : Type 0} (m : Match) (texts : List (List ℕ × V)) (kinds : List (List ℕ × ℕ)) (u : List ℕ) (tells : Tells m texts kinds)
    (short : length u ≤ 1024) (ordered : AreTextsInOrder texts) where
  -- all that match are found, in order
  pub all_hits : all_found m texts u [] (keys_of kinds) ≡ hits m u texts
  unfolding IsStrictlySortedBy
  all_hits = one_list (all_found m texts u [] (keys_of kinds)) (hits m u texts) (all_sorted m texts u (keys_of kinds) [] tt)
      (sorted_hits (λ t. text_matches m t u) texts ordered) each
    where
      good : Good m texts u (all_found m texts u [] (keys_of kinds))
      good = all_good m texts u (keys_of kinds) [] (λ q v h. not_some v h)

      filtered : (q : List ℕ) → lookup (same_text q) (hits m u texts) ≡ cond (text_matches m q u) (lookup (same_text q) texts) None
      filtered q = lookup-filter-keys (same_text q) (λ t. text_matches m t u) (text_matches m q u)
          (λ k h. ap (λ t. text_matches m t u) (sym (the_same q k h))) texts

      each : (q : List ℕ) → lookup (same_text q) (all_found m texts u [] (keys_of kinds)) ≡ lookup (same_text q) (hits m u texts)
      each q = option_cases (lookup (same_text q) (all_found m texts u [] (keys_of kinds)))
          (λ none. none ∙ sym (filtered q ∙ absent none (text_matches m q u) refl (lookup (same_text q) texts) refl))
          (λ v some. let g = good q v some in
          some ∙ sym (filtered q ∙ ap (λ b. cond b (lookup (same_text q) texts) None) g.1 ∙ g.0))
        where
          absent : lookup (same_text q) (all_found m texts u [] (keys_of kinds)) ≡ None → (b : Bool) → text_matches m q u ≡ b
              → (o : Option V) → lookup (same_text q) texts ≡ o → cond b (lookup (same_text q) texts) None ≡ None
          absent none false e o f = refl
          absent none true e None f = f
          absent none true e (Some v) f =
              let bad : false ≡ true = sym (ap is_some none)
              ∙ all_got m texts u (keys_of kinds) [] (kind m q) q v (stands m texts kinds u tells q v f) (only_one m q u short e) f in
              cc
