-- Bodies of 178 octets, spelled as these.
use Rattle.std.specs.Prelude.{◌≡◌, ℕ, Bool, true, false, ◌==◌, nat_lt, Option, Some, None, List, ◌++◌, length, take, drop, Ok, Err, if◌then◌else◌}
use Rattle.std.proofs.Common.{cond, refl, sym, ap, ◌∙◌, subst, arith}
use Rattle.std.proofs.lemmas.Bool.{eq-eqb, eqb-true, ltb-false}
use Rattle.std.proofs.lemmas.Bool.Decides.{nat_tests}
use Rattle.std.proofs.lemmas.List.{take_at, drop_at, take-append-drop, length-take-le, length-append}
use Rattle.command_codec.specs.declared.fault.CodecFault.TheVariants.{Short}
use Rattle.command_codec.specs.Coder.{IsReadAgain, IsSpelled}
use Rattle.command_codec.specs.Number.{Reading}

abbrev pub plain_spelling : List ℕ → Option (List ℕ)
plain_spelling body = if length body == 178 then Some body else None

abbrev pub plain_reading : List ℕ → Reading (List ℕ)
plain_reading octets = if nat_lt (length octets) 178 then Err Short else Ok (take 178 octets, drop 178 octets)

is_long : (body : List ℕ) → (length body == 178) ≡ true → length body ≡ 178
is_long body h = eqb-true (length body) 178 h

long_enough : (body rest : List ℕ) → length body ≡ 178 → nat_lt (length (body ++ rest)) 178 ≡ false
long_enough body rest e = grind (arith, nat_tests, length-append)

pub plain_again : IsReadAgain plain_spelling plain_reading
plain_again body octets rest h = go (length body == 178) refl h
  where
    go : (b : Bool) → (length body == 178) ≡ b → cond b (Some body) None ≡ Some octets → plain_reading (octets ++ rest) ≡ Ok (body, rest)
    go false e h = absurd cc
    go true e h =
        let same : body ≡ octets = cc in
        let long = is_long body e in
        subst (λ o. plain_reading (o ++ rest) ≡ Ok (body, rest)) same
        (rw (long_enough body rest long, take_at body rest 178 long, drop_at body rest 178 long) refl)

is_front : (octets : List ℕ) → nat_lt (length octets) 178 ≡ false → (length (take 178 octets) == 178) ≡ true
is_front octets h = eq-eqb (length (take 178 octets)) 178 (length-take-le 178 octets (ltb-false (length octets) 178 h))

pub plain_spelled : IsSpelled plain_spelling plain_reading
plain_spelled body octets rest all h = go (nat_lt (length octets) 178) refl h
  where
    go : (b : Bool) → nat_lt (length octets) 178 ≡ b → cond {A = Reading (List ℕ)} b (Err Short) (Ok (take 178 octets, drop 178 octets)) ≡ Ok (body, rest)
        → (front : List ℕ) × (plain_spelling body ≡ Some front) × (octets ≡ front ++ rest)
    go true e h = absurd cc
    go false e h =
        let same : ◌≡◌ {A = List ℕ × List ℕ} (take 178 octets, drop 178 octets) (body, rest) = cc in
        let is : take 178 octets ≡ body = ap (λ p. p.0) same in
        let behind : drop 178 octets ≡ rest = ap (λ p. p.1) same in
        let long : (length body == 178) ≡ true = subst (λ b. (length b == 178) ≡ true) is (is_front octets e) in
        let spelled : plain_spelling body ≡ Some body = rw long refl in
        let whole : octets ≡ body ++ rest = sym (take-append-drop 178 octets) ∙ ap (λ b. b ++ drop 178 octets) is ∙ ap (λ r. body ++ r) behind in
        (body, spelled, whole)
