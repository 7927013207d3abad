-- Spellings put at the end of a list, one after the other.
use Rattle.std.proofs.Common.{◌≡◌, ◌<◌, ◌%◌, arith, ℕ, Bool, true, false, cond, [], ◌∷◌, refl, ap, ◌∙◌, List, ◌++◌, length, take}
use Rattle.std.proofs.Common.{Option, Some, None, Ok, Err}
use Rattle.std.proofs.lemmas.Bool.{false≢true}
use Rattle.std.proofs.lemmas.List.{append_assoc}
use Rattle.std.proofs.Math.Seq.{take-append_seam}
use Rattle.command_codec.specs.declared.fault.CodecFault.{CodecFault}
use Rattle.command_codec.specs.declared.fault.CodecFault.TheVariants.{Short, Tag, Range, Rest, Memory}
use Rattle.command_codec.specs.Coder.{Puts}
use Rattle.command_codec.specs.Entry.{joined}
use Rattle.command_codec.specs.Number.{number_octets, node_form}

-- a fault in front
pub front_fails : (fault : CodecFault) (front behind : Option (List ℕ)) (old new : List ℕ)
    → Puts (Err fault) front old new → Puts (Err fault) (joined front behind) old new
front_fails Range front behind old new put = (ap (λ f. joined f behind) put.0, put.1)
front_fails Memory front behind old new put = put
front_fails Short front behind old new put = put
front_fails Tag front behind old new put = put
front_fails Rest front behind old new put = put

-- both are put
pub both_put : (u v w : Unit {0}) (front behind : Option (List ℕ)) (old mid new : List ℕ)
    → Puts (Ok u) front old mid → Puts (Ok v) behind mid new → Puts (Ok w) (joined front behind) old new
both_put u v w None behind old mid new first more = absurd first
both_put u v w (Some f) None old mid new first more = absurd more
both_put u v w (Some f) (Some b) old mid new first more = more ∙ ap (λ l. l ++ b) first ∙ append_assoc old f b

front_stands : (u : Unit {0}) (front : Option (List ℕ)) (old mid : List ℕ) → Puts (Ok u) front old mid → take (length old) mid ≡ old
front_stands u None old mid put = absurd put
front_stands u (Some f) old mid put = ap (λ l. take (length old) l) put ∙ take-append_seam old f

joined_none : (front : Option (List ℕ)) → joined front None ≡ None
joined_none None = refl
joined_none (Some f) = refl

back : (u : Unit {0}) (front : Option (List ℕ)) (old mid late new : List ℕ)
    → Puts (Ok u) front old mid → late ≡ mid → new ≡ take (length old) late → new ≡ old
back u front old mid late new first same cut = cut ∙ ap (λ l. take (length old) l) same ∙ front_stands u front old mid first

-- a fault afterwards, for which what was put before is taken back
pub behind_fails : (u : Unit {0}) (fault : CodecFault) (front behind : Option (List ℕ)) (old mid late new : List ℕ)
    → Puts (Ok u) front old mid → Puts (Err fault) behind mid late → new ≡ take (length old) late
    → Puts (Err fault) (joined front behind) old new
behind_fails u Range front behind old mid late new first put cut =
    (ap (λ b. joined front b) put.0 ∙ joined_none front, back u front old mid late new first put.1 cut)
behind_fails u Memory front behind old mid late new first put cut = back u front old mid late new first put cut
behind_fails u Short front behind old mid late new first put cut = put
behind_fails u Tag front behind old mid late new first put cut = put
behind_fails u Rest front behind old mid late new first put cut = put

-- a spelling that is there if a test holds
pub put_where : (u : Unit {0}) (b : Bool) (o old new : List ℕ) → b ≡ true → new ≡ old ++ o → Puts (Ok u) (cond b (Some o) None) old new
put_where u true o old new h put = put
put_where u false o old new h put = absurd (false≢true h)

pub boot_put : (tag : ℕ) (node boot old p q new : List ℕ)
    → p ≡ old ++ tag ∷ [] → q ≡ p ++ node → new ≡ q ++ boot → new ≡ old ++ (tag ∷ (node ++ boot))
boot_put tag node boot old p q new a b c =
    c ∙ ap (λ l. l ++ boot) b ∙ ap (λ l. (l ++ node) ++ boot) a ∙ simp append_assoc

pub item_put : (tag : ℕ) (node boot seq transport old p q r s new : List ℕ)
    → p ≡ old ++ tag ∷ [] → q ≡ p ++ node → r ≡ q ++ boot → s ≡ r ++ seq → new ≡ s ++ transport
    → new ≡ old ++ (tag ∷ ((node ++ boot) ++ (seq ++ transport)))
item_put tag node boot seq transport old p q r s new a b c d e =
    e ∙ ap (λ l. l ++ transport) d ∙ ap (λ l. (l ++ seq) ++ transport) c ∙ ap (λ l. ((l ++ boot) ++ seq) ++ transport) b
    ∙ ap (λ l. (((l ++ node) ++ boot) ++ seq) ++ transport) a ∙ simp append_assoc

-- a node's octet
pub node_octets : (n : ℕ) → n < 256 → n ∷ [] ≡ number_octets node_form n
unfolding number_octets
node_octets n small = ap (λ m. m ∷ []) (let z : n ≡ n % 256 = omega arith in z)
