-- A table's entries are those of three lists, one after the other: what is looked up, put and removed there.
use Rattle.std.proofs.Common.{◌≡◌, ℕ, Bool, true, false, cond, Some, Ordering, List, [], ◌∷◌, ◌++◌, refl, ap, sym, ◌∙◌}
use Rattle.std.specs.declared.cmp.Ordering.TheVariants.{Less, Equal, Greater}
use Rattle.std.specs.Ordering.{is_eq, match_ordering, nat_cmp, ordering_then}
use Rattle.std.specs.List.{AllByRecursion}
use Rattle.std.specs.Map.{keys_of, lookup, remove_entry}
use Rattle.std.specs.BTreeMap.{insert_entry}
use Rattle.wamp_ids.specs.declared.policy.Match.{Match}
use Rattle.wamp_ids.specs.declared.policy.Match.TheVariants.{Exact, Prefix, Wildcard}
use Rattle.wamp_ids.specs.Pattern.{PatternValue}
use Rattle.wamp_patterns.specs.Table.{all_entries, pattern_cmp, rank, same_pattern, with_match}
use Rattle.wamp_patterns.specs.Texts.{same_text, text_cmp}

-- ---- a part, with others before it and after it

module _ {K V : Type 0} (test : K → Bool) where
  skip_found : (front es : List (K × V)) → AllByRecursion (λ k. test k ≡ false) (keys_of front) → lookup test (front ++ es) ≡ lookup test es
  skip_found [] es all = refl
  skip_found (e ∷ front) es all = ap (λ b. cond b (Some e.1) (lookup test (front ++ es))) all.0 ∙ skip_found front es all.1

  skip_removed : (front es : List (K × V)) → AllByRecursion (λ k. test k ≡ false) (keys_of front)
      → remove_entry test (front ++ es) ≡ front ++ remove_entry test es
  skip_removed [] es all = refl
  skip_removed (e ∷ front) es all =
      ap (λ b. cond b (front ++ es) (e ∷ remove_entry test (front ++ es))) all.0 ∙ ap (λ xs. e ∷ xs) (skip_removed front es all.1)

  stop_found : (es rest : List (K × V)) → AllByRecursion (λ k. test k ≡ false) (keys_of rest) → lookup test (es ++ rest) ≡ lookup test es
  stop_found [] [] all = refl
  stop_found [] (e ∷ rest) all = ap (λ b. cond b (Some e.1) (lookup test rest)) all.0 ∙ stop_found [] rest all.1
  stop_found (e ∷ es) rest all = ap (λ o. cond (test e.0) (Some e.1) o) (stop_found es rest all)

  stop_removed : (es rest : List (K × V)) → AllByRecursion (λ k. test k ≡ false) (keys_of rest)
      → remove_entry test (es ++ rest) ≡ remove_entry test es ++ rest
  stop_removed [] [] all = refl
  stop_removed [] (e ∷ rest) all =
      ap (λ b. cond b rest (e ∷ remove_entry test rest)) all.0 ∙ ap (λ xs. e ∷ xs) (stop_removed [] rest all.1)
  stop_removed (e ∷ es) rest all = go (test e.0) (stop_removed es rest all)
    where
      go : (b : Bool) → remove_entry test (es ++ rest) ≡ remove_entry test es ++ rest
          → cond b (es ++ rest) (e ∷ remove_entry test (es ++ rest)) ≡ cond b es (e ∷ remove_entry test es) ++ rest
      go true h = refl
      go false h = ap (λ xs. e ∷ xs) h

module _ {K V : Type 0} (cmp : K → K → Ordering) (k : K) (v : V) where
  skip_put : (front es : List (K × V)) → AllByRecursion (λ x. cmp k x ≡ Greater) (keys_of front)
      → insert_entry cmp (front ++ es) k v ≡ front ++ insert_entry cmp es k v
  skip_put [] es all = refl
  skip_put (e ∷ front) es all =
      ap (λ o. match_ordering o ((k, v) ∷ e ∷ (front ++ es)) ((e.0, v) ∷ (front ++ es)) (e ∷ insert_entry cmp (front ++ es) k v)) all.0
      ∙ ap (λ xs. e ∷ xs) (skip_put front es all.1)

  stop_put : (es rest : List (K × V)) → AllByRecursion (λ x. cmp k x ≡ Less) (keys_of rest)
      → insert_entry cmp (es ++ rest) k v ≡ insert_entry cmp es k v ++ rest
  stop_put [] [] all = refl
  stop_put [] (e ∷ rest) all =
      ap (λ o. match_ordering o ((k, v) ∷ e ∷ rest) ((e.0, v) ∷ rest) (e ∷ insert_entry cmp rest k v)) all.0
  stop_put (e ∷ es) rest all = go (cmp k e.0) (stop_put es rest all)
    where
      go : (o : Ordering) → insert_entry cmp (es ++ rest) k v ≡ insert_entry cmp es k v ++ rest
          → match_ordering o ((k, v) ∷ e ∷ (es ++ rest)) ((e.0, v) ∷ (es ++ rest)) (e ∷ insert_entry cmp (es ++ rest) k v)
          ≡ match_ordering o ((k, v) ∷ e ∷ es) ((e.0, v) ∷ es) (e ∷ insert_entry cmp es k v) ++ rest
      go Less h = refl
      go Equal h = refl
      go Greater h = ap (λ xs. e ∷ xs) h

-- ---- the entries of one match

abbrev pub pattern : Match → List ℕ → PatternValue
pattern m t = record { text = t; matching = m }

all_with : {V : Type 0} (P : PatternValue → Type 0) (m : Match) → ((t : List ℕ) → P (pattern m t)) → (es : List (List ℕ × V))
    → AllByRecursion P (keys_of (with_match m es))
all_with P m f [] = tt
all_with P m f (e ∷ es) = (f e.0, all_with P m f es)

all_append : {K V : Type 0} (P : K → Type 0) (xs ys : List (K × V)) → AllByRecursion P (keys_of xs) → AllByRecursion P (keys_of ys)
    → AllByRecursion P (keys_of (xs ++ ys))
all_append P [] ys a b = b
all_append P (x ∷ xs) ys a b = (a.0, all_append P xs ys a.1 b)

pub tied : (m : Match) (o : Ordering) → ordering_then (nat_cmp (rank m) (rank m)) o ≡ o
tied Exact o = refl
tied Prefix o = refl
tied Wildcard o = refl

module _ {V : Type 0} (m : Match) (t : List ℕ) where
  found_with : (es : List (List ℕ × V)) → lookup (same_pattern (pattern m t)) (with_match m es) ≡ lookup (same_text t) es
  found_with [] = refl
  found_with (e ∷ es) =
      λ i. cond (is_eq (tied m (text_cmp t e.0) i)) (Some e.1) (found_with es i)

  removed_with : (es : List (List ℕ × V)) → remove_entry (same_pattern (pattern m t)) (with_match m es) ≡ with_match m (remove_entry (same_text t) es)
  removed_with [] = refl
  removed_with (e ∷ es) =
      ap (λ o. cond (is_eq o) (with_match m es) ((pattern m e.0, e.1) ∷ remove_entry (same_pattern (pattern m t)) (with_match m es))) (tied m (text_cmp t e.0))
      ∙ go (same_text t e.0) (removed_with es)
    where
      go : (b : Bool) → remove_entry (same_pattern (pattern m t)) (with_match m es) ≡ with_match m (remove_entry (same_text t) es)
          → cond b (with_match m es) ((pattern m e.0, e.1) ∷ remove_entry (same_pattern (pattern m t)) (with_match m es))
          ≡ with_match m (cond b es (e ∷ remove_entry (same_text t) es))
      go true h = refl
      go false h = ap (λ xs. (pattern m e.0, e.1) ∷ xs) h

  put_with : (v : V) (es : List (List ℕ × V))
      → insert_entry pattern_cmp (with_match m es) (pattern m t) v ≡ with_match m (insert_entry text_cmp es t v)
  put_with v [] = refl
  put_with v (e ∷ es) =
      ap (λ o. match_ordering o ((pattern m t, v) ∷ (pattern m e.0, e.1) ∷ with_match m es) ((pattern m e.0, v) ∷ with_match m es)
      ((pattern m e.0, e.1) ∷ insert_entry pattern_cmp (with_match m es) (pattern m t) v)) (tied m (text_cmp t e.0))
      ∙ go (text_cmp t e.0) (put_with v es)
    where
      go : (o : Ordering) → insert_entry pattern_cmp (with_match m es) (pattern m t) v ≡ with_match m (insert_entry text_cmp es t v)
          → match_ordering o ((pattern m t, v) ∷ (pattern m e.0, e.1) ∷ with_match m es) ((pattern m e.0, v) ∷ with_match m es)
          ((pattern m e.0, e.1) ∷ insert_entry pattern_cmp (with_match m es) (pattern m t) v)
          ≡ with_match m (match_ordering o ((t, v) ∷ e ∷ es) ((e.0, v) ∷ es) (e ∷ insert_entry text_cmp es t v))
      go Less h = refl
      go Equal h = refl
      go Greater h = ap (λ xs. (pattern m e.0, e.1) ∷ xs) h

-- ---- what is asked of a pattern is asked of the list of its match

abbrev pub part_of : {V : Type 0} → Match → List (List ℕ × V) → List (List ℕ × V) → List (List ℕ × V) → List (List ℕ × V)
part_of Exact exact prefix wildcard = exact
part_of Prefix exact prefix wildcard = prefix
part_of Wildcard exact prefix wildcard = wildcard

module _ {V : Type 0} (t : List ℕ) (a b c : List (List ℕ × V)) where
  found_exact : lookup (same_pattern (pattern Exact t)) (all_entries a b c) ≡ lookup (same_text t) a
  found_exact =
      stop_found (same_pattern (pattern Exact t)) (with_match Exact a) (with_match Prefix b ++ with_match Wildcard c)
      (all_append (λ k. same_pattern (pattern Exact t) k ≡ false) (with_match Prefix b) (with_match Wildcard c)
      (all_with (λ k. same_pattern (pattern Exact t) k ≡ false) Prefix (λ s. refl) b)
      (all_with (λ k. same_pattern (pattern Exact t) k ≡ false) Wildcard (λ s. refl) c))
      ∙ found_with Exact t a

  found_prefix : lookup (same_pattern (pattern Prefix t)) (all_entries a b c) ≡ lookup (same_text t) b
  found_prefix =
      skip_found (same_pattern (pattern Prefix t)) (with_match Exact a) (with_match Prefix b ++ with_match Wildcard c)
      (all_with (λ k. same_pattern (pattern Prefix t) k ≡ false) Exact (λ s. refl) a)
      ∙ stop_found (same_pattern (pattern Prefix t)) (with_match Prefix b) (with_match Wildcard c)
      (all_with (λ k. same_pattern (pattern Prefix t) k ≡ false) Wildcard (λ s. refl) c)
      ∙ found_with Prefix t b

  found_wildcard : lookup (same_pattern (pattern Wildcard t)) (all_entries a b c) ≡ lookup (same_text t) c
  found_wildcard =
      skip_found (same_pattern (pattern Wildcard t)) (with_match Exact a) (with_match Prefix b ++ with_match Wildcard c)
      (all_with (λ k. same_pattern (pattern Wildcard t) k ≡ false) Exact (λ s. refl) a)
      ∙ skip_found (same_pattern (pattern Wildcard t)) (with_match Prefix b) (with_match Wildcard c)
      (all_with (λ k. same_pattern (pattern Wildcard t) k ≡ false) Prefix (λ s. refl) b)
      ∙ found_with Wildcard t c

  removed_exact : remove_entry (same_pattern (pattern Exact t)) (all_entries a b c) ≡ all_entries (remove_entry (same_text t) a) b c
  removed_exact =
      stop_removed (same_pattern (pattern Exact t)) (with_match Exact a) (with_match Prefix b ++ with_match Wildcard c)
      (all_append (λ k. same_pattern (pattern Exact t) k ≡ false) (with_match Prefix b) (with_match Wildcard c)
      (all_with (λ k. same_pattern (pattern Exact t) k ≡ false) Prefix (λ s. refl) b)
      (all_with (λ k. same_pattern (pattern Exact t) k ≡ false) Wildcard (λ s. refl) c))
      ∙ ap (λ xs. xs ++ (with_match Prefix b ++ with_match Wildcard c)) (removed_with Exact t a)

  removed_prefix : remove_entry (same_pattern (pattern Prefix t)) (all_entries a b c) ≡ all_entries a (remove_entry (same_text t) b) c
  removed_prefix =
      skip_removed (same_pattern (pattern Prefix t)) (with_match Exact a) (with_match Prefix b ++ with_match Wildcard c)
      (all_with (λ k. same_pattern (pattern Prefix t) k ≡ false) Exact (λ s. refl) a)
      ∙ ap (λ xs. with_match Exact a ++ xs)
      (stop_removed (same_pattern (pattern Prefix t)) (with_match Prefix b) (with_match Wildcard c)
      (all_with (λ k. same_pattern (pattern Prefix t) k ≡ false) Wildcard (λ s. refl) c)
      ∙ ap (λ xs. xs ++ with_match Wildcard c) (removed_with Prefix t b))

  removed_wildcard : remove_entry (same_pattern (pattern Wildcard t)) (all_entries a b c) ≡ all_entries a b (remove_entry (same_text t) c)
  removed_wildcard =
      skip_removed (same_pattern (pattern Wildcard t)) (with_match Exact a) (with_match Prefix b ++ with_match Wildcard c)
      (all_with (λ k. same_pattern (pattern Wildcard t) k ≡ false) Exact (λ s. refl) a)
      ∙ ap (λ xs. with_match Exact a ++ xs)
      (skip_removed (same_pattern (pattern Wildcard t)) (with_match Prefix b) (with_match Wildcard c)
      (all_with (λ k. same_pattern (pattern Wildcard t) k ≡ false) Prefix (λ s. refl) b)
      ∙ ap (λ xs. with_match Prefix b ++ xs) (removed_with Wildcard t c))

  put_exact : (v : V) → insert_entry pattern_cmp (all_entries a b c) (pattern Exact t) v ≡ all_entries (insert_entry text_cmp a t v) b c
  put_exact v =
      stop_put pattern_cmp (pattern Exact t) v (with_match Exact a) (with_match Prefix b ++ with_match Wildcard c)
      (all_append (λ k. pattern_cmp (pattern Exact t) k ≡ Less) (with_match Prefix b) (with_match Wildcard c)
      (all_with (λ k. pattern_cmp (pattern Exact t) k ≡ Less) Prefix (λ s. refl) b)
      (all_with (λ k. pattern_cmp (pattern Exact t) k ≡ Less) Wildcard (λ s. refl) c))
      ∙ ap (λ xs. xs ++ (with_match Prefix b ++ with_match Wildcard c)) (put_with Exact t v a)

  put_prefix : (v : V) → insert_entry pattern_cmp (all_entries a b c) (pattern Prefix t) v ≡ all_entries a (insert_entry text_cmp b t v) c
  put_prefix v =
      skip_put pattern_cmp (pattern Prefix t) v (with_match Exact a) (with_match Prefix b ++ with_match Wildcard c)
      (all_with (λ k. pattern_cmp (pattern Prefix t) k ≡ Greater) Exact (λ s. refl) a)
      ∙ ap (λ xs. with_match Exact a ++ xs)
      (stop_put pattern_cmp (pattern Prefix t) v (with_match Prefix b) (with_match Wildcard c)
      (all_with (λ k. pattern_cmp (pattern Prefix t) k ≡ Less) Wildcard (λ s. refl) c)
      ∙ ap (λ xs. xs ++ with_match Wildcard c) (put_with Prefix t v b))

  put_wildcard : (v : V) → insert_entry pattern_cmp (all_entries a b c) (pattern Wildcard t) v ≡ all_entries a b (insert_entry text_cmp c t v)
  put_wildcard v =
      skip_put pattern_cmp (pattern Wildcard t) v (with_match Exact a) (with_match Prefix b ++ with_match Wildcard c)
      (all_with (λ k. pattern_cmp (pattern Wildcard t) k ≡ Greater) Exact (λ s. refl) a)
      ∙ ap (λ xs. with_match Exact a ++ xs)
      (skip_put pattern_cmp (pattern Wildcard t) v (with_match Prefix b) (with_match Wildcard c)
      (all_with (λ k. pattern_cmp (pattern Wildcard t) k ≡ Greater) Prefix (λ s. refl) b)
      ∙ ap (λ xs. with_match Prefix b ++ xs) (put_with Wildcard t v c))

-- the lists with one of them by f
abbrev pub changed : {V : Type 0} → (List (List ℕ × V) → List (List ℕ × V)) → Match → List (List ℕ × V) → List (List ℕ × V) → List (List ℕ × V)
    → List (PatternValue × V)
changed f Exact a b c = all_entries (f a) b c
changed f Prefix a b c = all_entries a (f b) c
changed f Wildcard a b c = all_entries a b (f c)

module _ {V : Type 0} (p : PatternValue) (a b c : List (List ℕ × V)) where
  pub found_by : (m : Match) (t : List ℕ) → lookup (same_pattern (pattern m t)) (all_entries a b c) ≡ lookup (same_text t) (part_of m a b c)
  found_by Exact t = found_exact t a b c
  found_by Prefix t = found_prefix t a b c
  found_by Wildcard t = found_wildcard t a b c

  put_by : (m : Match) (t : List ℕ) (v : V) → changed (λ es. insert_entry text_cmp es t v) m a b c ≡ insert_entry pattern_cmp (all_entries a b c) (pattern m t) v
  put_by Exact t v = sym (put_exact t a b c v)
  put_by Prefix t v = sym (put_prefix t a b c v)
  put_by Wildcard t v = sym (put_wildcard t a b c v)

  removed_by : (m : Match) (t : List ℕ) → changed (remove_entry (same_text t)) m a b c ≡ remove_entry (same_pattern (pattern m t)) (all_entries a b c)
  removed_by Exact t = sym (removed_exact t a b c)
  removed_by Prefix t = sym (removed_prefix t a b c)
  removed_by Wildcard t = sym (removed_wildcard t a b c)

  pub found_in : lookup (same_pattern p) (all_entries a b c) ≡ lookup (same_text p.text) (part_of p.matching a b c)
  found_in = found_by p.matching p.text

  pub put_in : (v : V) → changed (λ es. insert_entry text_cmp es p.text v) p.matching a b c ≡ insert_entry pattern_cmp (all_entries a b c) p v
  put_in v = put_by p.matching p.text v

  pub removed_in : changed (remove_entry (same_text p.text)) p.matching a b c ≡ remove_entry (same_pattern p) (all_entries a b c)
  removed_in = removed_by p.matching p.text
