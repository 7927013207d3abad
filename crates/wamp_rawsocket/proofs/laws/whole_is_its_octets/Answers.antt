use Rattle.wamp_rawsocket.proofs.Fronts.{front_whole_octets}
use Rattle.wamp_rawsocket.proofs.laws.whole_is_its_octets.Goals as goal

pub returns : goal.returns
returns c = front_whole_octets
