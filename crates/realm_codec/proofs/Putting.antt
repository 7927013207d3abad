-- Octets put at the end of a list, one part after the other.
use Rattle.std.proofs.Common.{◌≡◌, ℕ, Bool, ◌∷◌, [], ap, ◌∙◌, List, ◌++◌}
use Rattle.std.proofs.lemmas.List.{append_assoc}
use Rattle.wamp_message_types.specs.declared.read_result.UnfitKind.{UnfitKind}
use Rattle.realm_codec.specs.Parts.{kind_octet, quiet_octet}

pub two_put : (first second old mid new : List ℕ) → mid ≡ old ++ first → new ≡ mid ++ second → new ≡ old ++ (first ++ second)
two_put first second old mid new a b = b ∙ ap (λ l. l ++ second) a ∙ append_assoc old first second

pub unfit_put : (kind : UnfitKind) (number : List ℕ) (quiet : Bool) (old p q r new : List ℕ) → p ≡ old ++ 1 ∷ []
    → q ≡ p ++ kind_octet kind ∷ [] → r ≡ q ++ number → new ≡ r ++ quiet_octet quiet ∷ []
    → new ≡ old ++ (1 ∷ (kind_octet kind ∷ (number ++ quiet_octet quiet ∷ [])))
unfit_put kind number quiet old p q r new a b c d =
    d ∙ ap (λ l. l ++ quiet_octet quiet ∷ []) c ∙ ap (λ l. (l ++ number) ++ quiet_octet quiet ∷ []) b
    ∙ ap (λ l. ((l ++ kind_octet kind ∷ []) ++ number) ++ quiet_octet quiet ∷ []) a ∙ simp append_assoc
