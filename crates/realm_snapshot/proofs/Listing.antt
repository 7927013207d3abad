-- Octets that are put at the end of others, and lists that are put one element after the other.
use Rattle.std.proofs.Common.{◌≡◌, ℕ, ◌+◌, ◌%◌, ◌<◌, ◌≤◌, arith, List, [], ◌∷◌, ◌++◌, length, map, drop, get_or, Result, Ok, Err}
use Rattle.std.proofs.Common.{refl, sym, ap, ◌∙◌, subst}
use Rattle.std.specs.Prelude.{OnOk, IfOk, IsErr, MatchResult}
use Rattle.std.proofs.lemmas.Bool.{false≢true}
use Rattle.std.specs.List.{flat_map}
use Rattle.std.proofs.lemmas.List.{append_assoc, append-nil, drop_more, drop_all}
use Rattle.realm_snapshot.specs.Writing.{one_octet}
use Rattle.realm_snapshot.proofs.RoundTrip.{Each}

-- an octet of its own
pub octet_is : (n : ℕ) → n < 256 → n ∷ [] ≡ one_octet n
octet_is n small = ap (λ m. m ∷ []) (let z : n ≡ n % 256 = omega arith in z)

-- ---- parts that are put one after the other

pub two_put : (a b old mid new : List ℕ) → mid ≡ old ++ a → new ≡ mid ++ b → new ≡ old ++ (a ++ b)
two_put a b old mid new first second = second ∙ ap (λ l. l ++ b) first ∙ append_assoc old a b

pub three_put : (a b c old mid late new : List ℕ) → mid ≡ old ++ a → late ≡ mid ++ b → new ≡ late ++ c → new ≡ old ++ (a ++ (b ++ c))
three_put a b c old mid late new first second third = two_put a (b ++ c) old mid new first (two_put b c mid late new second third)

-- the last call is returned as it is
pub last_put : {T E : Type 0} (r : Result T E) (a b old mid new : List ℕ) → mid ≡ old ++ a → OnOk r (new ≡ mid ++ b)
    → OnOk r (new ≡ old ++ (a ++ b))
last_put (Ok _) a b old mid new first second = two_put a b old mid new first second
last_put (Err _) a b old mid new first second = tt

-- what holds anyway, and what follows from what holds
pub on_ok : {T E P : Type 0} (r : Result T E) → P → OnOk r P
on_ok (Ok _) p = p
on_ok (Err _) p = tt

pub on_ok_more : {T E P Q : Type 0} (r : Result T E) → (P → Q) → OnOk r P → OnOk r Q
on_ok_more (Ok _) more p = more p
on_ok_more (Err _) more p = tt

-- a call on a result that may be an error, and then is one itself
pub of_listed : {L M T E F : Type 0} (shown : L → M) (P : M → Type 0) (listed : Result L F) (r : Result T E) (held : M)
    → MatchResult listed (λ list. OnOk r (P (shown list))) (λ _. IsErr r) → IfOk listed (λ list. shown list ≡ held) → OnOk r (P held)
of_listed shown P (Ok list) r held put is = subst (λ l. OnOk r (P l)) is put
of_listed shown P (Err fault) r held put is = unless (P held) r put
  where
    unless : {T E : Type 0} (Q : Type 0) (r : Result T E) → IsErr r → OnOk r Q
    unless Q (Ok _) e = absurd (false≢true e)
    unless Q (Err _) e = tt

-- ---- lists

-- an element has been put
pub put_more : {A : Type 0} (octets_of : A → List ℕ) (list : List A) (i : ℕ) (x d : A) (out new whole : List ℕ) → i < length list
    → x ≡ get_or list i d → new ≡ out ++ octets_of x → out ++ flat_map octets_of (drop i list) ≡ whole
    → new ++ flat_map octets_of (drop (i + 1) list) ≡ whole
put_more octets_of list i x d out new whole within is put so_far =
    let more = flat_map octets_of (drop (i + 1) list) in
    ap (λ l. l ++ more) put
    ∙ append_assoc out (octets_of x) more
    ∙ ap (λ y. out ++ (octets_of y ++ more)) is
    ∙ ap (λ l. out ++ flat_map octets_of l) (sym (drop_more list i d within))
    ∙ so_far

-- all have been put
pub put_all : {A : Type 0} (octets_of : A → List ℕ) (list : List A) (i : ℕ) (out whole : List ℕ) → length list ≤ i
    → out ++ flat_map octets_of (drop i list) ≡ whole → out ≡ whole
put_all octets_of list i out whole end so_far =
    sym (append-nil out) ∙ ap (λ l. out ++ flat_map octets_of l) (sym (drop_all i list end)) ∙ so_far

-- each has it if the rest has: one element more has it
pub each_more : {A : Type 0} (P : A → Type 0) (list : List A) (i : ℕ) (x d : A) → i < length list → x ≡ get_or list i d → P x
    → (Each P (drop i list) → Each P list) → Each P (drop (i + 1) list) → Each P list
each_more P list i x d within is has so_far rest =
    so_far (subst (Each P) (sym (drop_more list i d within)) (subst P is has, rest))

pub each_all : {A : Type 0} (P : A → Type 0) (list : List A) (i : ℕ) → length list ≤ i → (Each P (drop i list) → Each P list) → Each P list
each_all P list i end so_far = so_far (subst (Each P) (sym (drop_all i list end)) tt)

pub each_map : {A C : Type 0} (P : C → Type 0) (f : A → C) (list : List A) → Each (λ x. P (f x)) list → Each P (map f list)
each_map P f [] each = tt
each_map P f (x ∷ xs) each = (each.0, each_map P f xs each.1)

pub flat_map_map : {A C : Type 0} (octets_of : C → List ℕ) (f : A → C) (list : List A)
    → flat_map octets_of (map f list) ≡ flat_map (λ x. octets_of (f x)) list
flat_map_map octets_of f [] = refl
flat_map_map octets_of f (x ∷ xs) = ap (λ l. octets_of (f x) ++ l) (flat_map_map octets_of f xs)
