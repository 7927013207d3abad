use Rattle.serve_program.proofs.Ending.{ends_unless_lost}
use Rattle.serve_program.proofs.lives.judge_end.Goals as goal

pub returns-in_default-clause-ending : goal.returns-in_default-clause-ending
returns-in_default-clause-ending c = ends_unless_lost c.args.fault c.requires c.in_default.not-Lost
