use Rattle.std.proofs.Common.{◌∙◌}
use Rattle.realm_calls.proofs.SoundCalls.{number_is}
use Rattle.realm_calls.proofs.calls.Calls.open.Goals as goal

pub push-requires-clause-free : goal.push-requires-clause-free
push-requires-clause-free c =
    let free = rw (← c.self.view_is) at c.requires.free in
    number_is c.self.inside.held c.args.callee c.args.invocation ∙ free
