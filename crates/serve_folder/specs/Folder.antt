-- What the file `cluster` of a folder says (docs/OPERATING.md, "The folder").
use Rattle.std.specs.Prelude.{◌≡◌, ◌≢◌, ℕ, ◌+◌, ◌++◌, ◌∷◌, [], List, codes}
use Rattle.serve_folder.specs.declared.judgement.Judgement.{Judgement}
use Rattle.serve_folder.specs.declared.judgement.Judgement.TheVariants.{Same, Other, Unknown}

-- three lines: the format, the number of nodes, which is a digit, and the realm's name
abbrev pub text_of : ℕ → List ℕ → List ℕ
text_of nodes realm = codes "format 1\nnodes " ++ (48 + nodes) ∷ (codes "\nrealm " ++ (realm ++ 10 ∷ []))

-- a folder is of the cluster whose text its file has, and of no other; of another cluster it is only if the file has that one's text
abbrev pub Judges : List ℕ → ℕ → List ℕ → Judgement → Type 0
Judges octets nodes realm Same = octets ≡ text_of nodes realm
Judges octets nodes realm (Other members name) = (octets ≡ text_of members name.now) × (octets ≢ text_of nodes realm)
Judges octets nodes realm Unknown = octets ≢ text_of nodes realm
