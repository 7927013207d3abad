use Rattle.std.proofs.Common.{rules}
use Rattle.store_rows.proofs.rows.put_row.Goals as goal

pub returns-clause-put : goal.returns-clause-put
returns-clause-put g c = search rules
