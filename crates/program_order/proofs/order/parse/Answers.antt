use Rattle.std.proofs.Common.{ap, ◌∙◌, List, map}
use Rattle.std.specs.String.{string_bytes}
use Rattle.clap.specs.Words.{App, Text, subcommand_of, takes, is_simple}
use Rattle.program_order.proofs.Parsing.{by_result, program_is_simple}
use Rattle.program_order.proofs.order.parse.Goals as goal

pub returns : goal.returns
returns c =
    let is = c.in_ok-command.ensures in
    let parse = c.try_get_matches_from in
    let words : List Text = map (λ s. string_bytes s) c.args.words.now in
    by_result parse.result _ _ _ _
    (λ m h. (h (ap is_simple is ∙ program_is_simple)).1 ∙ ap (λ (a : App). subcommand_of a words) is)
    (λ e h t. h (ap (λ (a : App). takes a words) is ∙ t)) parse.ensures.matches parse.ensures.passes
