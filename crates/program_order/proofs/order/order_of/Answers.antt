use Rattle.std.proofs.Common.{map}
use Rattle.std.specs.String.{string_bytes}
use Rattle.program_order.proofs.Spelling.{answers_asked}
use Rattle.program_order.proofs.order.order_of.Goals as goal

pub returns-clause-asked : goal.returns-clause-asked
returns-clause-asked c = answers_asked (map (λ s. string_bytes s) c.args.words.now) c.order_in.result c.order_in.ensures.answers
