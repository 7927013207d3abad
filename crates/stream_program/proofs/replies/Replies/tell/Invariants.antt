use Rattle.std.proofs.Common.{drop, ◌≡◌}
use Rattle.stream_program.proofs.Telling.{Told}
use Rattle.stream_program.proofs.replies.Replies.tell.Given as goal

abbrev pub invariant-loop-say : goal.invariant-loop-say
invariant-loop-say l = Told l.fn.self.limit l.says (drop l.say-index l.says) l.fn.self.octets l.self.octets × (l.self.limit ≡ l.fn.self.limit)
