-- What is read in parts.
use Rattle.std.proofs.Common.{◌≡◌, ℕ, List, [], ◌++◌, Option, None, Some, refl, sym, ◌∙◌, ap, append_assoc, append-nil}
use Rattle.std.specs.Io.KnownBytes.{Consumes, IsAtEnd}
use Rattle.client_listener.specs.Reading.{IsAll}

-- what is read in two parts is read
pub consumes_both : (a b c : Option (List ℕ)) (x y : List ℕ) → Consumes a b x → Consumes b c y → Consumes a c (x ++ y)
consumes_both None b c x y p q = tt
consumes_both (Some a) None c x y p q = absurd p
consumes_both (Some a) (Some b) None x y p q = absurd q
consumes_both (Some a) (Some b) (Some c) x y p q = p ∙ ap (λ (o : List ℕ). x ++ o) q ∙ sym (append_assoc x y c)

consumes_same : (a b : Option (List ℕ)) (x y : List ℕ) → x ≡ y → Consumes a b x → Consumes a b y
consumes_same a b x y e p = rw (← e) p

-- nothing more was read
pub consumes_none : (a b c : Option (List ℕ)) (x : List ℕ) → Consumes a b x → Consumes b c [] → Consumes a c x
consumes_none a b c x p q = consumes_same a c (x ++ []) x (append-nil x) (consumes_both a b c x [] p q)

-- nothing was read
pub consumes_nothing : (left : Option (List ℕ)) → Consumes left left []
consumes_nothing None = tt
consumes_nothing (Some left) = refl

-- what was read up to the end is all
pub is_all : (a b : Option (List ℕ)) (x : List ℕ) → Consumes a b x → IsAtEnd b → IsAll a x
is_all None b x p e = tt
is_all (Some a) None x p e = absurd p
is_all (Some a) (Some b) x p e = p ∙ ap (λ (o : List ℕ). x ++ o) e ∙ append-nil x
