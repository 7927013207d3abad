use Rattle.acceptor_store.proofs.sql.SqlKeeper.open.Goals as goal

-- what was held is left if the disk has returned what was written
pub returns-in-Ok-clause-again : goal.returns-in-Ok-clause-again
returns-in-Ok-clause-again g c rows is_open stores clean = (c.in-Ok.ensures.again is_open rows stores clean, tt)
