use Rattle.std.proofs.Common.{rules}
use Rattle.wamp_message_layouts.proofs.layouts.two_ids_with.Goals as goal

pub returns-in-Some-id_in : goal.returns-in-Some-id_in
returns-in-Some-id_in c = search rules
