use Rattle.client_listener.proofs.Inflow.{begins}
use Rattle.client_listener.proofs.inlet.Inlet.new.Goals as goal

pub returns : goal.returns
returns c before = begins before c.new.result c.new.ensures
