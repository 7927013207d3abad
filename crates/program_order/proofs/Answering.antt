-- What the order of a subcommand's options says of the words.
use Rattle.std.proofs.Common.{◌≡◌, refl, ap, sym, ◌∙◌, Result, Ok, Err, Option, Some, None, List}
use Rattle.std.specs.Prelude.{is_some, option_and_then, option_map, unwrap_or}
use Rattle.std.proofs.lemmas.Option.{none-some}
use Rattle.clap.specs.Words.{Row, Text, subcommand_of}
use Rattle.program_order.specs.declared.order.Order.{Order}
use Rattle.program_order.specs.declared.usage.UsageFault.{UsageFault}
use Rattle.program_order.specs.Program.{program}
use Rattle.program_order.specs.Order.{Asked, Answers, AnswersWords, asked_in, asked_in_rows}

pub answers_words : (words : List Text) (name : Text) (rows : List Row) (result : Result Order UsageFault)
    → subcommand_of program words ≡ Some (name, rows) → Answers (asked_in_rows name rows) result → AnswersWords words result
answers_words words name rows (Ok order) e h =
    let met : asked_in words ≡ asked_in_rows name rows = ap (λ (o : Option (Text × List Row)). option_and_then (λ met. asked_in_rows met.0 met.1) o) e in
    met ∙ h
answers_words words name rows (Err fault) e h =
    let met : asked_in words ≡ asked_in_rows name rows = ap (λ (o : Option (Text × List Row)). option_and_then (λ met. asked_in_rows met.0 met.1) o) e in
    λ taken asked. h (ap (λ (o : Option Asked). is_some o) (sym met) ∙ asked)

-- a pair whose parts are known
pub pair_of : {A : Type 0} (met : Option A) (first : A → Text) (second : A → List Row) (name : Text) (rows : List Row)
    → Some name ≡ option_map first met → Some rows ≡ option_map (λ (p : Text × List Row). p.1) (option_map {U = Text × List Row} (λ a. (first a, second a)) met)
    → option_map {U = Text × List Row} (λ a. (first a, second a)) met ≡ Some (name, rows)
pair_of None first second name rows n r = absurd (none-some name (sym n))
pair_of (Some a) first second name rows n r =
    let same_name : first a ≡ name = ap (λ (o : Option Text). unwrap_or o name) (sym n) in
    let same_rows : second a ≡ rows = ap (λ (o : Option (List Row)). unwrap_or o rows) (sym r) in
    rw (same_name, same_rows) refl
