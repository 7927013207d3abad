use Rattle.script_program.proofs.player.waiting.Waiting.new.Goals as goal

pub invariant_of-result : goal.invariant_of-result
invariant_of-result c = rw c.new.ensures.items (c.in_ok-queues.ensures c.args.members)
