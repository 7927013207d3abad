use Rattle.std.proofs.Common.{rules}
use Rattle.client_listener.proofs.inlet.item_for.Goals as goal

pub returns-in-Pong : goal.returns-in-Pong
returns-in-Pong c = search rules
