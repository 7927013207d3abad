use Rattle.std.proofs.Common.{rules}
use Rattle.client_listener.proofs.inlet.push.Goals as goal

pub returns-in-Err-Full-clause-full : goal.returns-in-Err-Full-clause-full
returns-in-Err-Full-clause-full g c = search rules
