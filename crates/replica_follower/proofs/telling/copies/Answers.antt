use Rattle.std.proofs.Common.{◌≡◌, sym, ap, ◌∙◌, ℕ, suc, ◌+◌, ◌<◌, arith, List, [], ◌∷◌, ◌++◌, length, get_or, drop}
use Rattle.std.proofs.Math.Seq.{drop-cons}
use Rattle.std.proofs.lemmas.List.{append_assoc, append-nil, drop_all}
use Rattle.replica_follower.proofs.telling.copies.Goals as goal

one_more : {A : Type 0} (xs old new : List A) (i : ℕ) (x d : A) → i < length xs → x ≡ get_or xs i d → new ≡ old ++ x ∷ []
    → old ++ drop i xs ≡ xs → new ++ drop (i + 1) xs ≡ xs
one_more xs old new i x d l is more h =
    let next : i + 1 ≡ suc i = omega arith in
    ap (λ k. new ++ drop k xs) next
    ∙ ap (λ ys. ys ++ drop (suc i) xs) more
    ∙ append_assoc old (x ∷ []) (drop (suc i) xs)
    ∙ ap (λ y. old ++ (y ∷ drop (suc i) xs)) is
    ∙ ap (λ ys. old ++ ys) (sym (drop-cons xs i d l))
    ∙ h

pub loop-entry-preserved : goal.loop-entry-preserved
loop-entry-preserved g c =
    one_more c.args.entries.now c.loop-entry.copies.items c.push.new.self.items c.loop-entry.entry-index c.in_ok-copy.field-0 c.entry-item.result
    (omega arith) (c.in_ok-copy.ensures ∙ c.entry-item.is) c.in_ok-push.ensures.items c.loop-entry.invariant

pub returns : goal.returns
returns g c =
    sym (append-nil c.loop-entry.copies.items)
    ∙ ap (λ xs. c.loop-entry.copies.items ++ xs) (sym (drop_all c.loop-entry.entry-index c.args.entries.now (omega arith)))
    ∙ c.loop-entry.invariant
