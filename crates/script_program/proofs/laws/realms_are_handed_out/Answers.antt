use Rattle.script_program.proofs.Handing.{handed_alike}
use Rattle.script_program.proofs.laws.realms_are_handed_out.Goals as goal

pub returns : goal.returns
returns c = handed_alike
