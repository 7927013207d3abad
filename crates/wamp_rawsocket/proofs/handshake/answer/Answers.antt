use Rattle.std.proofs.Common.{rules}
use Rattle.wamp_rawsocket.proofs.handshake.answer.Goals as goal

pub returns-clause-answer : goal.returns-clause-answer
returns-clause-answer c = search rules
