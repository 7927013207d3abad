use Rattle.std.proofs.Common.{rules}
use Rattle.store_rows.proofs.boots.raise_boot.Goals as goal

pub returns-clause-raised : goal.returns-clause-raised
returns-clause-raised g c = search rules
