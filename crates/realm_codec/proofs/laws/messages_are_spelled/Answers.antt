use Rattle.realm_codec.proofs.Spelled.{messages_are_spelled}
use Rattle.realm_codec.proofs.laws.messages_are_spelled.Goals as goal

pub returns : goal.returns
returns c = messages_are_spelled c.read_again.ensures
