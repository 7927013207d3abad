use Rattle.std.proofs.Common.{rules, ◌≡◌, true, set, subst, sym}
use Rattle.script_program.specs.Waiting.{mark_at}
use Rattle.script_program.proofs.Queues.{mark_is, mark_past}
use Rattle.script_program.proofs.player.waiting.mark.Goals as goal

pub returns-then-place-len : goal.returns-then-place-len
returns-then-place-len c =
    subst (λ y. set c.args.sent.now.items c.args.place (record { sender = y.sender; addressee = y.addressee; is_delivered = true }) ≡ mark_at c.args.place c.args.sent.now.items)
    (sym c.index_mut.ensures.value) (mark_is c.args.place c.args.sent.now.items c.index_mut.result.now (search rules))

pub returns-else-place-len : goal.returns-else-place-len
returns-else-place-len c = mark_past c.args.place c.args.sent.now.items (search rules)
