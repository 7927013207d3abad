use Rattle.std.proofs.lemmas.Int.{to_z-of_z}
use Rattle.std.specs.Int.{w64}
use Rattle.acceptor_store.proofs.statements.execute_put_meta.Goals as goal

pub returns-clause-runs : goal.returns-clause-runs
returns-clause-runs g c clean inside =
    rw (
      c.params-to_sql.ensures,
      c.params-to_sql-2.ensures,
      c.params-to_sql-3.ensures,
      to_z-of_z w64 c.args.boot c.ranges.boot,
      to_z-of_z w64 c.args.round c.ranges.round,
      to_z-of_z w64 c.args.node c.ranges.node,
    ) at (c.execute.ensures.runs clean inside)
