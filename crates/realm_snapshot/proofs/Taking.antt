-- What is taken from the head of octets: a text, and elements of a list one after the other.
use Rattle.std.proofs.Common.{◌≡◌, ℕ, suc, ◌≤◌, Bool, true, false, cond, refl, sym, ap, ◌∙◌, List, [], ◌∷◌, ◌++◌, length, take, drop}
use Rattle.std.proofs.Common.{Ok, Err, ◌≢◌, ◌+◌, subst, arith}
use Rattle.std.specs.Str.{IsUtf8, is_utf8}
use Rattle.std.proofs.lemmas.Str.{IsUtf8-from_is_utf8, is_utf8-from_IsUtf8}
use Rattle.std.proofs.lemmas.Bool.{le-leb}
use Rattle.std.proofs.lemmas.List.{append_assoc, append-nil}
use Rattle.command_codec.specs.declared.fault.CodecFault.{CodecFault}
use Rattle.command_codec.specs.declared.fault.CodecFault.TheVariants.{Short, Tag, Range, Rest, Memory}
use Rattle.command_codec.specs.Coder.{and_then}
use Rattle.command_codec.specs.Number.{Reading}
use Rattle.realm_snapshot.specs.Fault.{Takes}
use Rattle.realm_snapshot.specs.Reading.{unless_text, octets_reading, elements_reading}

-- a fault that is not of memory is that of the octets
pub fault_taken : {A : Type 0} (fault : CodecFault) (wanted : Reading A) (rest : List ℕ) → Takes (Err fault) wanted rest → fault ≢ Memory
    → wanted ≡ Err fault
fault_taken Short wanted rest h not = h
fault_taken Tag wanted rest h not = h
fault_taken Range wanted rest h not = h
fault_taken Rest wanted rest h not = h
fault_taken Memory wanted rest h not = absurd (not refl)

-- ---- a text

enough : (count : ℕ) (octets text rest : List ℕ) → count ≤ length octets → text ≡ take count octets → rest ≡ drop count octets
    → octets_reading count octets ≡ unless_text text rest
enough count octets text rest there front back =
    rw (le-leb count (length octets) there) (ap (λ t. unless_text t (drop count octets)) (sym front) ∙ ap (unless_text text) (sym back))

pub text_there : (count : ℕ) (octets text rest : List ℕ) → count ≤ length octets → text ≡ take count octets
    → rest ≡ drop count octets → IsUtf8 text → octets_reading count octets ≡ Ok (text, rest)
text_there count octets text rest there front back good =
    enough count octets text rest there front back ∙ ap (λ t. cond {A = Reading (List ℕ)} t (Ok (text, rest)) (Err Range)) (is_utf8-from_IsUtf8 text good)

pub text_bad : (count : ℕ) (octets text rest : List ℕ) → count ≤ length octets → text ≡ take count octets
    → rest ≡ drop count octets → (IsUtf8 text → ⊥) → octets_reading count octets ≡ Err Range
text_bad count octets text rest there front back bad = enough count octets text rest there front back ∙ go (is_utf8 text) refl
  where
    go : (b : Bool) → is_utf8 text ≡ b → cond {A = Reading (List ℕ)} b (Ok (text, rest)) (Err Range) ≡ Err Range
    go true e = absurd (bad (IsUtf8-from_is_utf8 text e))
    go false e = refl

-- ---- elements

-- what is listed, and then what is read
abbrev pub onto : {A : Type 0} → List A → Reading (List A) → Reading (List A)
onto done (Ok read) = Ok (done ++ read.0, read.1)
onto done (Err fault) = Err fault

onto_none : {A : Type 0} (read : Reading (List A)) → onto [] read ≡ read
onto_none (Ok read) = refl
onto_none (Err fault) = refl

onto_one : {A : Type 0} (done : List A) (one : A) (read : Reading (List A))
    → onto done (and_then read (λ more rest. Ok (one ∷ more, rest))) ≡ onto (done ++ one ∷ []) read
onto_one done one (Ok read) = ap (λ l. Ok (l, read.1)) (sym (append_assoc done (one ∷ []) read.0))
onto_one done one (Err fault) = refl

-- one element more
pub one_more : {A : Type 0} (reading : List ℕ → Reading A) (left : ℕ) (octets rest : List ℕ) (done : List A) (one : A)
    → reading octets ≡ Ok (one, rest)
    → onto done (elements_reading reading (suc left) octets) ≡ onto (done ++ one ∷ []) (elements_reading reading left rest)
one_more reading left octets rest done one is =
    ap (λ r. onto done (and_then r (λ first behind. and_then (elements_reading reading left behind) (λ more end. Ok (first ∷ more, end))))) is
    ∙ onto_one done one (elements_reading reading left rest)

pub no_more : {A : Type 0} (reading : List ℕ → Reading A) (left : ℕ) (octets : List ℕ) (done : List A) (fault : CodecFault)
    → reading octets ≡ Err fault → onto done (elements_reading reading (suc left) octets) ≡ Err fault
no_more reading left octets done fault is =
    ap (λ r. onto done (and_then r (λ first behind. and_then (elements_reading reading left behind) (λ more end. Ok (first ∷ more, end))))) is

pub at_first : {A : Type 0} (reading : List ℕ → Reading A) (count left : ℕ) (octets : List ℕ) (done : List A) → left + 0 ≡ count → done ≡ []
    → elements_reading reading count octets ≡ onto done (elements_reading reading left octets)
at_first {A} reading count left octets done all none =
    let same : left ≡ count = omega arith in
    subst (λ n. elements_reading reading n octets ≡ onto done (elements_reading reading left octets)) same
    (sym (ap (λ d. onto {A = A} d (elements_reading reading left octets)) none ∙ onto_none (elements_reading reading left octets)))

pub at_last : {A : Type 0} (whole : Reading (List A)) (octets : List ℕ) (done : List A) → whole ≡ onto done (Ok ([], octets))
    → whole ≡ Ok (done, octets)
at_last whole octets done all = all ∙ ap (λ l. Ok (l, octets)) (append-nil done)
