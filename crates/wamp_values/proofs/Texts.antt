-- What the tokens of a value print, and what its text is read as.
use Rattle.std.proofs.Common.{◌≡◌, ◌∙◌, List, [], ◌++◌, ◌∷◌, refl, append_assoc}
use Rattle.std.specs.Prelude.{Result, Ok}
use Rattle.std.proofs.lemmas.Result.{on_ok_weaker}
use Rattle.json.specs.Token.{Token, end_array}
use Rattle.json.specs.Written.{Written, Writes}
use Rattle.json.specs.Print.{print}
use Rattle.serde_json.specs.Data.{Data}
use Rattle.serde_json.specs.Written.{compact_text}
use Rattle.serde_json.proofs.Texts.{print-outline}
use Rattle.wamp_values.specs.Args.{args_items, args_tokens}
use Rattle.wamp_values.specs.Tokens.{data_tokens, list_tokens, Appends}
use Rattle.wamp_values.specs.declared.args.Args.{Args}
use Rattle.wamp_values.specs.declared.args.Args.TheVariants.{Nothing, List as Listed, Both}

-- a value's tokens print its compact text
pub print_tokens : (d : Data) → print (data_tokens d) ≡ compact_text d
print_tokens d = print-outline d

-- the arguments of a message, with the bracket that closes its array, are the tokens of its last items
pub close_args : (args : Args) → args_tokens args ++ end_array ∷ [] ≡ list_tokens (args_items args)
close_args Nothing = refl
close_args (Listed list) = refl
close_args (Both list dict) = append_assoc (data_tokens list) (data_tokens dict) (end_array ∷ [])

-- what is appended by one step and by the next
pub appended : {E F : Type 0} {x : Unit {0}} {r : Result (Unit {0}) F} {old mid new : Written}
    {front back : List Token}
    → Appends {E = E} (Ok x) old mid front → Appends r mid new back → Appends r old new (front ++ back)
appended {r = r} {old = old} {mid = mid} {new = new} {front = front} {back = back} p q =
    record {
      ok = on_ok_weaker r (λ (e : new.tokens ≡ mid.tokens ++ back). rw (e, p.ok) (append_assoc old.tokens front back)) q.ok;
      before = q.before ∙ p.before;
    }

-- a token that std's writer wrote
pub appended_one : {E : Type 0} {r : Result (Unit {0}) E} {old new : Written} {t : Token} → Writes r old new t → Appends r old new (t ∷ [])
appended_one p = record { ok = p.ok; before = p.room.0 }
