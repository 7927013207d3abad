use Rattle.serve_program.proofs.Ending.{ends_boot}
use Rattle.serve_program.proofs.lives.run_boot.Goals as goal

-- the fault that ended the run is no refusal
pub judge_end-requires : goal.judge_end-requires
judge_end-requires g c = ends_boot c.in-Err.fault c.in-Err.ensures.fatal c.from.result c.from.ensures
