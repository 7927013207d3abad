use Rattle.std.proofs.Common.{rules}
use Rattle.script_program.proofs.player.waiting.Waiting.send.Goals as goal

pub invariant_of-self-in_err-put_place : goal.invariant_of-self-in_err-put_place
invariant_of-self-in_err-put_place c = rw c.in_ok-reserve.ensures.items (c.in_err-put_place.ensures.err c.self.inside.sent.items c.self.invariant)

pub returns-clause-ok : goal.returns-clause-ok
returns-clause-ok c = search rules
