use Rattle.realm_laws.proofs.Reached.{invokes_callee, sends_each_event}
use Rattle.realm_laws.proofs.laws.sessions_are_reached.Goals as goal

pub returns : goal.returns
returns c = record { call = invokes_callee; events = sends_each_event }
