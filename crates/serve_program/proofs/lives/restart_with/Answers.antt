use Rattle.serve_program.proofs.Ending.{ends_refused}
use Rattle.serve_program.proofs.lives.restart_with.Goals as goal

pub returns-in-Err-clause-ending : goal.returns-in-Err-clause-ending
returns-in-Err-clause-ending g c =
    ends_refused g.M.Body.Body.same g.M.Machine.loaded g.K.Keeper.holds g.K.Keeper.finds g.K.Keeper.is_faithful g.K.Keeper.failures _ _ _ _
    c.in-Err.ensures.refuses c.fault_of.result c.fault_of.ensures
