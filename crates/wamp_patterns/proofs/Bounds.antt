-- What the rules for URIs and patterns say of their lengths and components.
use Rattle.std.proofs.Common.{◌≡◌, ℕ, ◌≤◌, Bool, true, false, cond, ◌&&◌, List, length, ltb, Ok, Err, refl, arith}
use Rattle.std.specs.List.{list_any}
use Rattle.std.proofs.lemmas.Bool.Decides.{nat_tests}
use Rattle.wamp_ids.specs.declared.policy.Match.{Match}
use Rattle.wamp_ids.specs.declared.policy.Match.TheVariants.{Exact}
use Rattle.wamp_ids.specs.declared.uri.UriFault.TheVariants.{TooLong, Space, Hash, EmptyPart}
use Rattle.wamp_ids.specs.Uri.{IsUri, has_empty_part, has_hash, has_space, is_empty, is_exact, parts, unless_faulty}
use Rattle.wamp_ids.specs.Pattern.{IsPattern, PatternValue}

not_longer : (n : ℕ) → ltb 1024 n ≡ false → n ≤ 1024
not_longer n h = grind (arith, nat_tests)

short : {A : Type 0} (m : Match) (text : List ℕ) (x : A) → unless_faulty m text x ≡ Ok x → length text ≤ 1024
short m text x h = go (ltb 1024 (length text)) refl h
  where
    go : (b : Bool) → ltb 1024 (length text) ≡ b
        → cond b (Err TooLong) (cond (has_space text) (Err Space) (cond (has_hash text) (Err Hash)
        (cond (is_exact m && has_empty_part text) (Err EmptyPart) (Ok x)))) ≡ Ok x → length text ≤ 1024
    go true e f = cc
    go false e f = not_longer (length text) e

pub short_pattern : (p : PatternValue) → IsPattern p → length p.text ≤ 1024
short_pattern p h = short p.matching p.text p h

pub short_uri : (u : List ℕ) → IsUri u → length u ≤ 1024
short_uri u h = short Exact u u h

-- no component of a URI is empty
pub named_uri : (u : List ℕ) → IsUri u → list_any is_empty (parts u) ≡ false
named_uri u h = go (ltb 1024 (length u)) (has_space u) (has_hash u) (has_empty_part u) h
  where
    go : (a b c d : Bool) → cond a (Err TooLong) (cond b (Err Space) (cond c (Err Hash) (cond d (Err EmptyPart) (Ok u)))) ≡ Ok u → d ≡ false
    go true b c d f = cc
    go false true c d f = cc
    go false false true d f = cc
    go false false false true f = cc
    go false false false false f = refl
