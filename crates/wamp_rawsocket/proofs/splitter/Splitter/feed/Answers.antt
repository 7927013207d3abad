use Rattle.std.proofs.Common.{rules}
use Rattle.wamp_rawsocket.proofs.splitter.Splitter.feed.Goals as goal

pub returns-clause-ok : goal.returns-clause-ok
returns-clause-ok c = search rules
