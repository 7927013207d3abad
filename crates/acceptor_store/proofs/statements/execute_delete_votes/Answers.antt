use Rattle.std.proofs.lemmas.Int.{to_z-of_z}
use Rattle.std.specs.Int.{w64}
use Rattle.acceptor_store.proofs.statements.execute_delete_votes.Goals as goal

pub returns-clause-runs : goal.returns-clause-runs
returns-clause-runs g c clean inside =
    rw (c.params-to_sql.ensures, to_z-of_z w64 c.args.floor c.ranges.floor) at (c.execute.ensures.runs clean inside)
