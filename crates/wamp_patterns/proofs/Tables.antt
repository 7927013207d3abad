-- What a table returns and becomes, by the list of the match that is asked for.
use Rattle.std.proofs.Common.{◌≡◌, ℕ, Option, None, Result, Ok, Err, IfOk, OnOk, OnErr, List, refl, ap, sym, subst, ◌∙◌}
use Rattle.std.specs.Map.{lookup, remove_entry}
use Rattle.std.specs.BTreeMap.{insert_entry}
use Rattle.wamp_ids.specs.declared.policy.Match.{Match}
use Rattle.wamp_ids.specs.declared.policy.Match.TheVariants.{Exact, Prefix, Wildcard}
use Rattle.wamp_ids.specs.Pattern.{PatternValue}
use Rattle.wamp_patterns.specs.Table.{AreInOrder, all_entries, pattern_cmp, same_pattern}
use Rattle.wamp_patterns.specs.Texts.{same_text, text_cmp}
use Rattle.wamp_patterns.proofs.Parts.{changed, found_in, part_of, put_in, removed_in}
use Rattle.wamp_patterns.proofs.Places.{in_order_either_way}
use Rattle.wamp_patterns.proofs.Placing.{sorted_removed}

changed_to : {V : Type 0} (f : List (List ℕ × V) → List (List ℕ × V)) (m : Match) (a b c new : List (List ℕ × V))
    → new ≡ f (part_of m a b c) → changed (λ _. new) m a b c ≡ changed f m a b c
changed_to f Exact a b c new e = ap (λ es. all_entries es b c) e
changed_to f Prefix a b c new e = ap (λ es. all_entries a es c) e
changed_to f Wildcard a b c new e = ap (λ es. all_entries a b es) e

as_it_was : {V : Type 0} (m : Match) (a b c : List (List ℕ × V)) → changed (λ es. es) m a b c ≡ all_entries a b c
as_it_was Exact a b c = refl
as_it_was Prefix a b c = refl
as_it_was Wildcard a b c = refl

module _ {V : Type 0} (p : PatternValue) (a b c : List (List ℕ × V)) (view : List (PatternValue × V)) (is : all_entries a b c ≡ view)
    (m : Match) (t : List ℕ) (em : m ≡ p.matching) (et : t ≡ p.text) where
  pub asked : lookup (same_text t) (part_of m a b c) ≡ lookup (same_pattern p) view
  asked = (λ i. lookup (same_text (et i)) (part_of (em i) a b c)) ∙ sym (found_in p a b c) ∙ ap (lookup (same_pattern p)) is

  put_gives : (new : List (List ℕ × V)) (v : V) → new ≡ insert_entry text_cmp (part_of m a b c) t v
      → changed (λ _. new) m a b c ≡ insert_entry pattern_cmp view p v
  put_gives new v e =
      changed_to (λ es. insert_entry text_cmp es t v) m a b c new e
      ∙ (λ i. changed (λ es. insert_entry text_cmp es (et i) v) (em i) a b c)
      ∙ put_in p a b c v ∙ ap (λ es. insert_entry pattern_cmp es p v) is

  pub removed_gives : (new : List (List ℕ × V)) → new ≡ remove_entry (same_text t) (part_of m a b c)
      → changed (λ _. new) m a b c ≡ remove_entry (same_pattern p) view
  removed_gives new e =
      changed_to (remove_entry (same_text t)) m a b c new e
      ∙ (λ i. changed (remove_entry (same_text (et i))) (em i) a b c)
      ∙ removed_in p a b c ∙ ap (remove_entry (same_pattern p)) is

  kept_gives : (new : List (List ℕ × V)) → new ≡ part_of m a b c → changed (λ _. new) m a b c ≡ view
  kept_gives new e = changed_to (λ es. es) m a b c new e ∙ as_it_was m a b c ∙ is

  pub removed_ordered : AreInOrder view → (new : List (List ℕ × V)) → new ≡ remove_entry (same_text t) (part_of m a b c)
      → AreInOrder (changed (λ _. new) m a b c)
  removed_ordered ordered new e = subst AreInOrder (sym (removed_gives new e)) (sorted_removed pattern_cmp (same_pattern p) view ordered)

  module _ {E : Type 0} (r : Result (Option V) E) (new : List (List ℕ × V)) (v : V) where
    pub old_told : IfOk r (λ old. old ≡ lookup (same_text t) (part_of m a b c)) → IfOk r (λ old. old ≡ lookup (same_pattern p) view)
    old_told = go r
      where
        go : (r : Result (Option V) E) → IfOk r (λ old. old ≡ lookup (same_text t) (part_of m a b c))
            → IfOk r (λ old. old ≡ lookup (same_pattern p) view)
        go (Ok x) h = h ∙ asked
        go (Err e) h = tt

    pub only_new_told : OnErr r (lookup (same_text t) (part_of m a b c) ≡ None) → OnErr r (lookup (same_pattern p) view ≡ None)
    only_new_told = go r
      where
        go : (r : Result (Option V) E) → OnErr r (lookup (same_text t) (part_of m a b c) ≡ None) → OnErr r (lookup (same_pattern p) view ≡ None)
        go (Ok x) h = tt
        go (Err e) h = sym asked ∙ h

    pub entries_told : OnOk r (new ≡ insert_entry text_cmp (part_of m a b c) t v)
        → OnOk r (changed (λ _. new) m a b c ≡ insert_entry pattern_cmp view p v)
    entries_told = go r
      where
        go : (r : Result (Option V) E) → OnOk r (new ≡ insert_entry text_cmp (part_of m a b c) t v)
            → OnOk r (changed (λ _. new) m a b c ≡ insert_entry pattern_cmp view p v)
        go (Ok x) h = put_gives new v h
        go (Err e) h = tt

    pub unchanged_told : OnErr r (new ≡ part_of m a b c) → OnErr r (changed (λ _. new) m a b c ≡ view)
    unchanged_told = go r
      where
        go : (r : Result (Option V) E) → OnErr r (new ≡ part_of m a b c) → OnErr r (changed (λ _. new) m a b c ≡ view)
        go (Ok x) h = tt
        go (Err e) h = kept_gives new h

    pub ordered_told : AreInOrder view → OnOk r (new ≡ insert_entry text_cmp (part_of m a b c) t v) → OnErr r (new ≡ part_of m a b c)
        → AreInOrder (changed (λ _. new) m a b c)
    ordered_told ordered put kept =
        in_order_either_way r p v view (changed (λ _. new) m a b c) (entries_told put) (unchanged_told kept) ordered
