use Rattle.std.proofs.Common.{Ok, Err, ap, refl}
use Rattle.cluster_program.proofs.script.script_run.Goals as goal

pub returns-in-Ok : goal.returns-in-Ok
returns-in-Ok g c = record { ended = Ok tt; ends = c.in-Ok.ensures; answer = refl }

pub returns-in-Err : goal.returns-in-Err
returns-in-Err g c = record { ended = Err c.in-Err.fault; ends = c.in-Err.ensures; answer = ap Err c.of_script.ensures }
