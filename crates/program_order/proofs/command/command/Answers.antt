use Rattle.std.proofs.Common.{ap, ◌∙◌}
use Rattle.std.proofs.lemmas.Result.{IfOk-weaker}
use Rattle.clap.specs.Words.{App, with_subcommand}
use Rattle.program_order.specs.Program.{program, stream_shape, script_shape, serve_shape}
use Rattle.program_order.proofs.command.command.Goals as goal

pub returns : goal.returns
unfolding program
returns c =
    let one_is = c.in_ok-one.ensures stream_shape c.stream_command.ensures ∙ ap (λ (a : App). with_subcommand a stream_shape) c.in_ok-bare.ensures in
    let two_is = c.in_ok-two.ensures script_shape c.script_command.ensures ∙ ap (λ (a : App). with_subcommand a script_shape) one_is in
    IfOk-weaker c.added-3.result _ _
    (λ r h. h ∙ ap (λ (a : App). with_subcommand a serve_shape) two_is) (c.added-3.ensures serve_shape c.serve_command.ensures)
