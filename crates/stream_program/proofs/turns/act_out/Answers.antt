use Rattle.stream_program.proofs.Running.{performs_flushed}
use Rattle.stream_program.proofs.turns.act_out.Goals as goal

pub returns : goal.returns
returns g c =
    let w = c.in_ok-write_to.ensures in
    performs_flushed c.act-outcome.result c.args.service.now c.act-outcome.new.self c.args.act.now c.write_to.new.self _ _
    c.act-outcome.ensures w.0 w.1
