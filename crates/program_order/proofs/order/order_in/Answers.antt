use Rattle.std.proofs.Common.{◌∙◌, ◌≡◌, sym, Some, map}
use Rattle.std.specs.String.{string_bytes}
use Rattle.clap.specs.Words.{subcommand_of, subcommand_rows_of, rows_of, found_of}
use Rattle.program_order.specs.Program.{program}
use Rattle.program_order.proofs.Answering.{answers_words, pair_of}
use Rattle.program_order.proofs.order.order_in.Goals as goal

pub returns-in-Some-clause-answers : goal.returns-in-Some-clause-answers
returns-in-Some-clause-answers c =
    let words = map (λ s. string_bytes s) c.args.words.now in
    let e = c.in-Some.ensures in
    let met : subcommand_rows_of c.in-Ok.matches ≡ Some (c.in-Some.name.now, rows_of (found_of c.in-Some.options.now)) = pair_of _ _ _ _ _ e.name e.rows in
    let parsed : subcommand_rows_of c.in-Ok.matches ≡ subcommand_of program words = rw c.in-Ok.is at c.in_ok-matches.ensures in
    answers_words words _ _ c.order_by.result (sym parsed ∙ met) c.order_by.ensures.answers
