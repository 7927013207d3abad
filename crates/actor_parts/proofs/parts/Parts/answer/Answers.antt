use Rattle.std.proofs.Common.{rules}
use Rattle.actor_parts.proofs.parts.Parts.answer.Goals as goal

pub returns : goal.returns
returns g c = search rules
