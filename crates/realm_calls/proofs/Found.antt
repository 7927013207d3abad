-- What a loop over calls has found, with what the rest gives, is all that the calls give.
use Rattle.std.proofs.Common.{◌≡◌, ℕ, suc, ◌+◌, ◌<◌, true, false, List, [], ◌∷◌, ◌++◌, length, drop, get_or}
use Rattle.std.proofs.Common.{sym, ap, ◌∙◌, append_assoc, add-one, drop-cons}
use Rattle.std.proofs.lemmas.Bool.{cond-true, cond-false}
use Rattle.realm_calls.specs.declared.calls.Open.{Open}
use Rattle.realm_calls.specs.Calls.{is_by, calls_by}

rest_is : (calls : List Open) (i : ℕ) (call : Open) → i < length calls → call ≡ get_or calls i call
    → drop i calls ≡ call ∷ drop (i + 1) calls
rest_is calls i call within is = rw (add-one, drop-cons calls i call) (ap (λ (c : Open). c ∷ drop (suc i) calls) (sym is))

-- the next call is by the session to another
pub one_named : (calls found more all : List Open) (session i : ℕ) (call : Open) → i < length calls → call ≡ get_or calls i call
    → is_by session call ≡ true → more ≡ found ++ call ∷ [] → found ++ calls_by (drop i calls) session ≡ all
    → more ++ calls_by (drop (i + 1) calls) session ≡ all
one_named calls found more all session i call within is by grown held =
    let rest = calls_by (drop (i + 1) calls) session in
    ap (λ (list : List Open). list ++ rest) grown ∙ append_assoc found (call ∷ []) rest
    ∙ ap (λ (list : List Open). found ++ list) (sym (ap (λ (list : List Open). calls_by list session) (rest_is calls i call within is)
    ∙ cond-true (is_by session call) (call ∷ rest) rest by)) ∙ held

-- or it is not
pub none_named : (calls found all : List Open) (session i : ℕ) (call : Open) → i < length calls → call ≡ get_or calls i call
    → is_by session call ≡ false → found ++ calls_by (drop i calls) session ≡ all → found ++ calls_by (drop (i + 1) calls) session ≡ all
none_named calls found all session i call within is by held =
    let rest = calls_by (drop (i + 1) calls) session in
    ap (λ (list : List Open). found ++ list) (sym (ap (λ (list : List Open). calls_by list session) (rest_is calls i call within is)
    ∙ cond-false (is_by session call) (call ∷ rest) rest by)) ∙ held
