use Rattle.std.proofs.Common.{rules}
use Rattle.realm_codec.proofs.act.ActCoderCoderAct.put.Goals as goal

pub returns-in-Hung : goal.returns-in-Hung
returns-in-Hung c = search rules
