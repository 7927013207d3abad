use Rattle.std.proofs.Common.{rules}
use Rattle.client_listener.proofs.outbox.append.Goals as goal

pub returns-in-Ok : goal.returns-in-Ok
returns-in-Ok c = search rules
