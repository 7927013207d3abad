-- Bodies that are numbers below 256, spelled as one octet.
use Rattle.std.specs.Prelude.{◌≡◌, ℕ, Bool, true, false, nat_lt, Option, Some, None, List, [], ◌∷◌, ◌++◌, Ok, Err, if◌then◌else◌}
use Rattle.std.proofs.Common.{cond, ap, ◌∙◌, subst, ◌<◌}
use Rattle.std.proofs.lemmas.Bool.{lt-ltb}
use Rattle.command_codec.specs.declared.fault.CodecFault.TheVariants.{Short}
use Rattle.command_codec.specs.Coder.{IsReadAgain, IsSpelled}
use Rattle.command_codec.specs.Number.{Reading}

abbrev pub octet_spelling : ℕ → Option (List ℕ)
octet_spelling n = if nat_lt n 256 then Some (n ∷ []) else None

abbrev pub octet_reading : List ℕ → Reading ℕ
octet_reading [] = Err Short
octet_reading (octet ∷ octets) = Ok (octet, octets)

pub octet_again : IsReadAgain octet_spelling octet_reading
octet_again n octets rest h = go (nat_lt n 256) h
  where
    go : (b : Bool) → cond b (Some (n ∷ [])) None ≡ Some octets → octet_reading (octets ++ rest) ≡ Ok (n, rest)
    go true e = let same : octets ≡ n ∷ [] = cc in ap (λ o. octet_reading (o ++ rest)) same
    go false e = cc

pub octet_spelled : IsSpelled octet_spelling octet_reading
octet_spelled n [] rest all h = cc
octet_spelled n (o ∷ os) rest all h =
    let same : ◌≡◌ {A = ℕ × List ℕ} (o, os) (n, rest) = cc in
    let is : o ≡ n = ap (λ p. p.0) same in
    let small : n < 256 = subst (λ m. m < 256) is all.0 in
    (n ∷ [], ap (λ b. cond b (Some (n ∷ [])) None) (lt-ltb n 256 small), ap (λ p. p.0 ∷ p.1) same)
