use Rattle.std.proofs.Common.{rules}
use Rattle.wamp_rawsocket.proofs.frame.put_frame.Goals as goal

pub returns-clause-octets : goal.returns-clause-octets
returns-clause-octets c = search rules

pub returns-clause-too_long : goal.returns-clause-too_long
returns-clause-too_long c = search rules
