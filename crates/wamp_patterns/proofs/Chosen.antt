-- Which entry serves, and which match, among the entries of three lists.
use Rattle.std.proofs.Common.{◌≡◌, ℕ, suc, ◌≤◌, Bool, true, false, not, cond, ◌||◌, Option, Some, None, is_some, option_map}
use Rattle.std.proofs.Common.{List, [], ◌∷◌, ◌++◌, length, filter, find, refl, ap, sym, subst, ◌∙◌}
use Rattle.std.specs.declared.cmp.Ordering.TheVariants.{Less}
use Rattle.std.specs.List.{AllByRecursion, list_any, slice_get}
use Rattle.std.specs.List.Sorted.{IsStrictlySortedBy}
use Rattle.std.specs.Map.{keys_of, lookup, values_of}
use Rattle.std.proofs.lemmas.Cmp.{eq_by_cmp_equiv}
use Rattle.std.proofs.lemmas.List.{append_assoc, map-append}
use Rattle.std.proofs.lemmas.List.Elements.{filter-append}
use Rattle.std.proofs.lemmas.Map.Entries.{lookup-filter-keys, lookup_from_place, place_from_lookup}
use Rattle.std.proofs.lemmas.Map.Keys.{IsDistinct-from_sorted}
use Rattle.wamp_ids.specs.declared.policy.Match.{Match}
use Rattle.wamp_ids.specs.declared.policy.Match.TheVariants.{Exact, Prefix, Wildcard}
use Rattle.wamp_ids.specs.Pattern.{PatternValue}
use Rattle.wamp_ids.specs.Uri.{parts, is_empty}
use Rattle.wamp_patterns.specs.Matching.{matches, text_matches}
use Rattle.wamp_patterns.specs.Ranking.{better, is_unbeaten, matching, serves, text_is_better}
use Rattle.wamp_patterns.specs.Kinds.{Tells, all_found, first_found, how_many, positive}
use Rattle.wamp_patterns.specs.Table.{AreInOrder, all_entries, pattern_cmp, same_pattern, with_match}
use Rattle.wamp_patterns.specs.Texts.{AreTextsInOrder, same_text, text_cmp}
use Rattle.wamp_patterns.proofs.Hits.{Best, all_hits, best, hits, nothing, option_cases, not_some}
use Rattle.wamp_patterns.proofs.Order.{kept_as_one, pattern_total}
use Rattle.wamp_patterns.proofs.Parts.{found_by, part_of, pattern, tied}
use Rattle.wamp_patterns.proofs.Ranks.{off}
use Rattle.wamp_patterns.proofs.Serving.{one_unbeaten, some_serves}

-- ---- the entry that serves, by look-ups

some_is : {A : Type 0} {x y : A} → Some x ≡ Some y → x ≡ y
some_is h = cc

find_gives : {X : Type 0} (f : X → Bool) (xs : List X) (s : X) → find f xs ≡ Some s → (i : ℕ) × (slice_get xs i ≡ Some s) × (f s ≡ true)
find_gives f [] s h = cc
find_gives {X = X} f (x ∷ xs) s h = go (f x) refl h (λ g. find_gives f xs s g)
  where
    go : (b : Bool) → f x ≡ b → cond b (Some x) (find f xs) ≡ Some s
        → (find f xs ≡ Some s → (i : ℕ) × (slice_get xs i ≡ Some s) × (f s ≡ true)) → (i : ℕ) × (slice_get (x ∷ xs) i ≡ Some s) × (f s ≡ true)
    go true e g rest = (0, g, ap f (sym (some_is g)) ∙ e)
    go false e g rest = (suc (rest g).0, (rest g).1, (rest g).2)

none_passes : {X : Type 0} (p : X → Bool) (xs : List X) → ((i : ℕ) (y : X) → slice_get xs i ≡ Some y → p y ≡ false) → list_any p xs ≡ false
none_passes p [] h = refl
none_passes p (x ∷ xs) h = ap (λ b. b || list_any p xs) (h 0 x refl) ∙ none_passes p xs (λ i y e. h (suc i) y e)

any_passes : {V : Type 0} (p : PatternValue → Bool) (es : List (PatternValue × V)) (k : PatternValue) (v : V)
    → lookup (same_pattern k) es ≡ Some v → p k ≡ true → list_any (λ e. p e.0) es ≡ true
any_passes p [] k v h t = cc
any_passes {V = V} p (e ∷ es) k v h t = go (same_pattern k e.0) refl h (λ g. any_passes p es k v g t)
  where
    or_true : (a b : Bool) → b ≡ true → (a || b) ≡ true
    or_true true b f = refl
    or_true false b f = f

    go : (b : Bool) → same_pattern k e.0 ≡ b → cond b (Some e.1) (lookup (same_pattern k) es) ≡ Some v
        → (lookup (same_pattern k) es ≡ Some v → list_any (λ x. p x.0) es ≡ true) → (p e.0 || list_any (λ x. p x.0) es) ≡ true
    go true f g rest = ap (λ x. p x || list_any (λ y. p y.0) es) (sym ((kept_as_one k e.0).0 f)) ∙ ap (λ b. b || list_any (λ y. p y.0) es) t
    go false f g rest = or_true (p e.0) _ (rest g)

fewer : {V : Type 0} (p : PatternValue → Bool) (P : PatternValue → Type 0) (xs : List (PatternValue × V)) → AllByRecursion P (keys_of xs)
    → AllByRecursion P (keys_of (filter (λ x. p x.0) xs))
fewer p P [] all = tt
fewer {V = V} p P (x ∷ xs) all = at (p x.0) (fewer p P xs all.1)
  where
    at : (b : Bool) → AllByRecursion P (keys_of (filter (λ z. p z.0) xs))
        → AllByRecursion P (keys_of (cond b (x ∷ filter (λ z. p z.0) xs) (filter (λ z. p z.0) xs)))
    at true rest = (all.0, rest)
    at false rest = rest

sorted_filter : {V : Type 0} (p : PatternValue → Bool) (es : List (PatternValue × V)) → AreInOrder es → AreInOrder (filter (λ e. p e.0) es)
unfolding IsStrictlySortedBy
sorted_filter p [] s = tt
sorted_filter {V = V} p (e ∷ es) s = go (p e.0) (sorted_filter p es s.1)
  where
    go : (b : Bool) → AreInOrder (filter (λ x. p x.0) es) → AreInOrder (cond b (e ∷ filter (λ x. p x.0) es) (filter (λ x. p x.0) es))
    go true rest = (fewer p (λ y. pattern_cmp e.0 y ≡ Less) es s.0, rest)
    go false rest = rest

module _ {V : Type 0} (entries : List (PatternValue × V)) (u : List ℕ) (ordered : AreInOrder entries) where
  abbrev pub fit : List (PatternValue × V)
  fit = matching (λ e. e.0) entries u

  in_fit : (k : PatternValue) → lookup (same_pattern k) fit ≡ cond (matches k u) (lookup (same_pattern k) entries) None
  in_fit k = lookup-filter-keys (same_pattern k) (λ x. matches x u) (matches k u)
      (λ x h. ap (λ y. matches y u) (sym ((kept_as_one k x).0 h))) entries

  at_place : (es : List (PatternValue × V)) → AreInOrder es → (i : ℕ) (y : PatternValue × V) → slice_get es i ≡ Some y
      → lookup (same_pattern y.0) es ≡ Some y.1
  at_place es s i y h = lookup_from_place (eq_by_cmp_equiv pattern_total) es i y.0 y.1 (IsDistinct-from_sorted pattern_cmp (keys_of es) s) h

  fit_ordered : AreInOrder fit
  fit_ordered = sorted_filter (λ x. matches x u) entries ordered

  fits_at : (i : ℕ) (y : PatternValue × V) → slice_get fit i ≡ Some y → (matches y.0 u ≡ true) × (lookup (same_pattern y.0) entries ≡ Some y.1)
  fits_at i y h =
      let found : lookup (same_pattern y.0) fit ≡ Some y.1 = at_place fit fit_ordered i y h in
      from (matches y.0 u) refl (sym (in_fit y.0) ∙ found)
    where
      from : (b : Bool) → matches y.0 u ≡ b → cond b (lookup (same_pattern y.0) entries) None ≡ Some y.1
          → (matches y.0 u ≡ true) × (lookup (same_pattern y.0) entries ≡ Some y.1)
      from true e g = (e, g)
      from false e g = not_some y.1 g

  pub is_server : (k : PatternValue) (v : V) → lookup (same_pattern k) entries ≡ Some v → matches k u ≡ true
      → ((q : PatternValue) (w : V) → lookup (same_pattern q) entries ≡ Some w → matches q u ≡ true → better q k ≡ false)
      → serves (λ e. e.0) entries u ≡ Some (k, v)
  is_server k v found match free = option_cases (serves (λ e. e.0) entries u)
      (λ none. let bad : false ≡ true = sym (ap is_some none) ∙ some_serves (λ e. e.0) entries u ∙ any_passes (λ x. matches x u) entries k v found match in cc)
      (λ s some. some ∙ ap Some (same s (find_gives (is_unbeaten (λ e. e.0) fit) fit s some)))
    where
      mine : lookup (same_pattern k) fit ≡ Some v
      mine = in_fit k ∙ ap (λ b. cond b (lookup (same_pattern k) entries) None) match ∙ found

      unbeaten : is_unbeaten (λ e. e.0) fit (k, v) ≡ true
      unbeaten = ap not (none_passes (λ o. better o.0 k) fit (λ i y h. let f = fits_at i y h in free y.0 y.1 f.1 f.0))

      same : (s : PatternValue × V) → (i : ℕ) × (slice_get fit i ≡ Some s) × (is_unbeaten (λ e. e.0) fit s ≡ true) → s ≡ (k, v)
      same s at =
          let place = place_from_lookup (same_pattern k) fit v mine in
          let key : place.1 ≡ k = sym ((kept_as_one k place.1).0 place.3) in
          let here : slice_get fit place.0 ≡ Some (k, v) = place.2 ∙ ap (λ x. Some (x, v)) key in
          let keys : s.0 ≡ k = one_unbeaten (λ e. e.0) entries u at.0 place.0 s (k, v) at.1 here at.2 unbeaten in
          let value : s.1 ≡ v = some_is (sym (at_place fit fit_ordered at.0 s at.1) ∙ ap (λ x. lookup (same_pattern x) fit) keys ∙ mine) in
          λ i. (keys i, value i)

  pub none_serves : ((q : PatternValue) (w : V) → lookup (same_pattern q) entries ≡ Some w → matches q u ≡ false)
      → serves (λ e. e.0) entries u ≡ None
  none_serves none = option_cases (serves (λ e. e.0) entries u)
      (λ n. n)
      (λ s some.
      let bad : true ≡ false = sym (ap is_some some) ∙ some_serves (λ e. e.0) entries u
      ∙ none_passes (λ e. matches e.0 u) entries (λ i y h. none y.0 y.1 (at_place entries ordered i y h)) in cc)

-- ---- the three lists

module _ {V : Type 0} (a b c : List (List ℕ × V)) (u : List ℕ) (ordered : AreInOrder (all_entries a b c)) where
  found_of : (m : Match) (t : List ℕ) (v : V) → lookup (same_text t) (part_of m a b c) ≡ Some v
      → lookup (same_pattern (pattern m t)) (all_entries a b c) ≡ Some v
  found_of m t v h = found_by (pattern m t) a b c m t ∙ h

  text_of : (m : Match) (t : List ℕ) (v : V) → lookup (same_pattern (pattern m t)) (all_entries a b c) ≡ Some v
      → lookup (same_text t) (part_of m a b c) ≡ Some v
  text_of m t v h = sym (found_by (pattern m t) a b c m t) ∙ h

  abbrev pub value : Option (PatternValue × V) → Option V
  value o = option_map (λ e. e.1) o

  contrary : {b : Bool} {P : Type 0} → b ≡ false → b ≡ true → P
  contrary e f = off (sym f ∙ e)

  module _ (short : length u ≤ 1024) (named : list_any is_empty (parts u) ≡ false) (ka : List (List ℕ × ℕ)) (ta : Tells Exact a ka) where
    no_exact : first_found Exact a u (keys_of ka) ≡ None → (q : List ℕ) (w : V) → lookup (same_pattern (pattern Exact q)) (all_entries a b c) ≡ Some w
        → text_matches Exact q u ≡ false
    no_exact none q w h = nothing Exact a ka u ta short none q w (text_of Exact q w h)

    -- an exact pattern serves
    pub by_exact : AreTextsInOrder ka → (v : V) → first_found Exact a u (keys_of ka) ≡ Some v
        → value (serves (λ e. e.0) (all_entries a b c) u) ≡ Some v
    by_exact oa v h =
        let one : Best Exact a ka u ta short v = best Exact a ka u ta short named oa v h in
        ap value (is_server (all_entries a b c) u ordered (pattern Exact one.text) v (found_of Exact one.text v one.value) one.fits
        (λ q w f g. free one.text q.matching q.text))
      where
        free : (t : List ℕ) (m : Match) (q : List ℕ) → text_is_better m q Exact t ≡ false
        free t Exact q = refl
        free t Prefix q = refl
        free t Wildcard q = refl

    module _ (kb : List (List ℕ × ℕ)) (tb : Tells Prefix b kb) (none : first_found Exact a u (keys_of ka) ≡ None) where
      no_prefix : first_found Prefix b u (keys_of kb) ≡ None → (q : List ℕ) (w : V)
          → lookup (same_pattern (pattern Prefix q)) (all_entries a b c) ≡ Some w → text_matches Prefix q u ≡ false
      no_prefix nor q w h = nothing Prefix b kb u tb short nor q w (text_of Prefix q w h)

      -- no exact pattern matches, and a prefix serves
      pub by_prefix : AreTextsInOrder kb → (v : V) → first_found Prefix b u (keys_of kb) ≡ Some v
          → value (serves (λ e. e.0) (all_entries a b c) u) ≡ Some v
      by_prefix ob v h =
          let one : Best Prefix b kb u tb short v = best Prefix b kb u tb short named ob v h in
          ap value (is_server (all_entries a b c) u ordered (pattern Prefix one.text) v (found_of Prefix one.text v one.value) one.fits
          (λ q w f g. free one q.matching q.text w f g))
        where
          free : (one : Best Prefix b kb u tb short v) (m : Match) (q : List ℕ) (w : V)
              → lookup (same_pattern (pattern m q)) (all_entries a b c) ≡ Some w
              → text_matches m q u ≡ true → text_is_better m q Prefix one.text ≡ false
          free one Exact q w f g = contrary (no_exact none q w f) g
          free one Prefix q w f g = one.unbeaten q w (text_of Prefix q w f) g
          free one Wildcard q w f g = refl

      module _ (kc : List (List ℕ × ℕ)) (tc : Tells Wildcard c kc) (nor : first_found Prefix b u (keys_of kb) ≡ None) where
        by_wildcard : AreTextsInOrder kc → (v : V) → first_found Wildcard c u (keys_of kc) ≡ Some v
            → value (serves (λ e. e.0) (all_entries a b c) u) ≡ Some v
        by_wildcard oc v h =
            let one : Best Wildcard c kc u tc short v = best Wildcard c kc u tc short named oc v h in
            ap value (is_server (all_entries a b c) u ordered (pattern Wildcard one.text) v (found_of Wildcard one.text v one.value) one.fits
            (λ q w f g. free one q.matching q.text w f g))
          where
            free : (one : Best Wildcard c kc u tc short v) (m : Match) (q : List ℕ) (w : V)
                → lookup (same_pattern (pattern m q)) (all_entries a b c) ≡ Some w
                → text_matches m q u ≡ true → text_is_better m q Wildcard one.text ≡ false
            free one Exact q w f g = contrary (no_exact none q w f) g
            free one Prefix q w f g = contrary (no_prefix nor q w f) g
            free one Wildcard q w f g = one.unbeaten q w (text_of Wildcard q w f) g

        by_none : first_found Wildcard c u (keys_of kc) ≡ None → value (serves (λ e. e.0) (all_entries a b c) u) ≡ None
        by_none never = ap value (none_serves (all_entries a b c) u ordered (λ q w f. free q.matching q.text w f))
          where
            free : (m : Match) (q : List ℕ) (w : V) → lookup (same_pattern (pattern m q)) (all_entries a b c) ≡ Some w
                → text_matches m q u ≡ false
            free Exact q w f = no_exact none q w f
            free Prefix q w f = no_prefix nor q w f
            free Wildcard q w f = nothing Wildcard c kc u tc short never q w (text_of Wildcard q w f)

        -- neither an exact pattern nor a prefix matches: a wildcard serves, or none
        pub by_last : AreTextsInOrder kc → first_found Wildcard c u (keys_of kc) ≡ value (serves (λ e. e.0) (all_entries a b c) u)
        by_last oc = option_cases (first_found Wildcard c u (keys_of kc))
            (λ never. never ∙ sym (by_none never))
            (λ v h. h ∙ sym (by_wildcard oc v h))

-- ---- all that match

values_with : {V : Type 0} (m : Match) (u : List ℕ) (es : List (List ℕ × V))
    → values_of (matching (λ e. e.0) (with_match m es) u) ≡ values_of (hits m u es)
values_with m u [] = refl
values_with {V = V} m u (e ∷ es) = go (text_matches m e.0 u) (values_with m u es)
  where
    go : (b : Bool) → values_of (matching (λ x. x.0) (with_match m es) u) ≡ values_of (hits m u es)
        → values_of (cond b ((pattern m e.0, e.1) ∷ matching (λ x. x.0) (with_match m es) u) (matching (λ x. x.0) (with_match m es) u))
        ≡ values_of (cond b (e ∷ hits m u es) (hits m u es))
    go true h = ap (λ vs. e.1 ∷ vs) h
    go false h = h

pub all_values : {V : Type 0} (a b c : List (List ℕ × V)) (u : List ℕ)
    → values_of (matching (λ e. e.0) (all_entries a b c) u) ≡ values_of (hits Exact u a) ++ (values_of (hits Prefix u b) ++ values_of (hits Wildcard u c))
all_values {V = V} a b c u =
    split (with_match Exact a) (with_match Prefix b ++ with_match Wildcard c)
    ∙ (λ i. values_with Exact u a i ++ (split (with_match Prefix b) (with_match Wildcard c) ∙ (λ j. values_with Prefix u b j ++ values_with Wildcard u c j)) i)
  where
    split : (xs ys : List (PatternValue × V))
        → values_of (matching (λ e. e.0) (xs ++ ys) u) ≡ values_of (matching (λ e. e.0) xs u) ++ values_of (matching (λ e. e.0) ys u)
    split xs ys = ap values_of (filter-append (λ e. matches e.0 u) xs ys)
        ∙ map-append (λ e. e.1) (matching (λ e. e.0) xs u) (matching (λ e. e.0) ys u)

-- ---- each of the three lists is in order

front_sorted : {V : Type 0} (xs ys : List (PatternValue × V)) → AreInOrder (xs ++ ys) → AreInOrder xs
unfolding IsStrictlySortedBy
front_sorted [] ys s = tt
front_sorted {V = V} (x ∷ xs) ys s = (first xs s.0, front_sorted xs ys s.1)
  where
    first : (zs : List (PatternValue × V)) → AllByRecursion (λ y. pattern_cmp x.0 y ≡ Less) (keys_of (zs ++ ys))
        → AllByRecursion (λ y. pattern_cmp x.0 y ≡ Less) (keys_of zs)
    first [] all = tt
    first (z ∷ zs) all = (all.0, first zs all.1)

back_sorted : {V : Type 0} (xs ys : List (PatternValue × V)) → AreInOrder (xs ++ ys) → AreInOrder ys
unfolding IsStrictlySortedBy
back_sorted [] ys s = s
back_sorted (x ∷ xs) ys s = back_sorted xs ys s.1

texts_sorted : {V : Type 0} (m : Match) (es : List (List ℕ × V)) → AreInOrder (with_match m es) → AreTextsInOrder es
unfolding IsStrictlySortedBy
texts_sorted m [] s = tt
texts_sorted {V = V} m (e ∷ es) s = (each es s.0, texts_sorted m es s.1)
  where
    each : (xs : List (List ℕ × V)) → AllByRecursion (λ y. pattern_cmp (pattern m e.0) y ≡ Less) (keys_of (with_match m xs))
        → AllByRecursion (λ y. text_cmp e.0 y ≡ Less) (keys_of xs)
    each [] all = tt
    each (x ∷ xs) all = (sym (tied m (text_cmp e.0 x.0)) ∙ all.0, each xs all.1)

pub each_sorted : {V : Type 0} (a b c : List (List ℕ × V)) → AreInOrder (all_entries a b c)
    → AreTextsInOrder a × AreTextsInOrder b × AreTextsInOrder c
each_sorted a b c s =
    let rest : AreInOrder (with_match Prefix b ++ with_match Wildcard c) = back_sorted (with_match Exact a) (with_match Prefix b ++ with_match Wildcard c) s in (
      texts_sorted Exact a (front_sorted (with_match Exact a) (with_match Prefix b ++ with_match Wildcard c) s),
      texts_sorted Prefix b (front_sorted (with_match Prefix b) (with_match Wildcard c) rest),
      texts_sorted Wildcard c (back_sorted (with_match Prefix b) (with_match Wildcard c) rest),
    )

module _ {V : Type 0} (a b c : List (List ℕ × V)) (u : List ℕ) (ordered : AreInOrder (all_entries a b c)) (short : length u ≤ 1024)
    (ka kb kc : List (List ℕ × ℕ)) (ta : Tells Exact a ka) (tb : Tells Prefix b kb) (tc : Tells Wildcard c kc) where
  -- the three lists give all that match, one after the other
  pub all_told : (none one two three : List V) → none ≡ [] → one ≡ none ++ values_of (all_found Exact a u [] (keys_of ka))
      → two ≡ one ++ values_of (all_found Prefix b u [] (keys_of kb)) → three ≡ two ++ values_of (all_found Wildcard c u [] (keys_of kc))
      → three ≡ values_of (matching (λ e. e.0) (all_entries a b c) u)
  all_told none one two three e f g h =
      let sorted = each_sorted a b c ordered in
      let xs : one ≡ values_of (hits Exact u a) =
      f ∙ (λ i. e i ++ values_of (all_hits Exact a ka u ta short sorted.0 i)) in
      let ys : two ≡ values_of (hits Exact u a) ++ values_of (hits Prefix u b) =
      g ∙ (λ i. xs i ++ values_of (all_hits Prefix b kb u tb short sorted.1 i)) in
      h ∙ (λ i. ys i ++ values_of (all_hits Wildcard c kc u tc short sorted.2 i))
      ∙ append_assoc (values_of (hits Exact u a)) (values_of (hits Prefix u b)) (values_of (hits Wildcard u c))
      ∙ sym (all_values a b c u)

-- ---- a table without entries

pub nothing_ordered : {V : Type 0} (a b c : List (List ℕ × V)) → a ≡ [] → b ≡ [] → c ≡ [] → AreInOrder (all_entries a b c)
unfolding IsStrictlySortedBy
nothing_ordered a b c e f g = subst AreInOrder (sym (all_three e f g)) tt
  where
    all_three : a ≡ [] → b ≡ [] → c ≡ [] → all_entries a b c ≡ []
    all_three e f g = λ i. all_entries (e i) (f i) (g i)

pub nothing_tells : {V : Type 0} (m : Match) (texts : List (List ℕ × V)) (kinds : List (List ℕ × ℕ)) → texts ≡ [] → kinds ≡ []
    → Tells m texts kinds
nothing_tells m texts kinds e f k = ap (lookup (same_text k)) f ∙ sym (ap (λ ts. positive (how_many m ts k)) e)
