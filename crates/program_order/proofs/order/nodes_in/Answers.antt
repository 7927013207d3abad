use Rattle.std.proofs.Common.{rules}
use Rattle.program_order.proofs.order.nodes_in.Goals as goal

pub returns : goal.returns
returns c = search rules
