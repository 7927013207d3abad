use Rattle.script_program.proofs.Queues.{all_marked}
use Rattle.script_program.proofs.player.waiting.Waiting.deliver.Goals as goal

pub invariant_of-self : goal.invariant_of-self
invariant_of-self c = rw c.mark.ensures (all_marked c.self.inside.members c.args.place c.self.inside.sent.items c.self.inside.queues.items c.self.invariant)
