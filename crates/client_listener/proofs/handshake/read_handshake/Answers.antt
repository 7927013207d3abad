use Rattle.std.proofs.Common.{arith}
use Rattle.std.proofs.lemmas.Grind.{common_steps}
use Rattle.client_listener.proofs.handshake.read_handshake.Goals as goal

pub returns : goal.returns
returns g c = grind (arith, common_steps)
