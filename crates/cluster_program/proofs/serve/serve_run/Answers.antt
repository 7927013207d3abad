use Rattle.std.proofs.Common.{ap, ◌∙◌}
use Rattle.cluster_program.proofs.Ending.{ends_all}
use Rattle.cluster_program.specs.Fault.{ends_nothing}
use Rattle.cluster_program.proofs.serve.serve_run.Goals as goal

pub returns-in-Err : goal.returns-in-Err
returns-in-Err g c = ap ends_nothing c.of_serve.ensures ∙ ends_all c.in-Err.fault c.in-Err.ensures.ends
