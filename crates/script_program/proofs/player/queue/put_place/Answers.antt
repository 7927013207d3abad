use Rattle.std.proofs.Common.{◌≡◌, ◌<◌, sym, ◌∙◌, ◌+◌, ◌*◌, ◌++◌, ◌∷◌, [], arith, rules, subst, ap, refl}
use Rattle.script_program.specs.Queue.{IsQueueOf, pair_of}
use Rattle.script_program.proofs.Queues.{all_grown, set_queue, grown_other, grown_own, between_none, between_other, between_own}
use Rattle.script_program.proofs.player.queue.put_place.Goals as goal

pub returns-then-not-are_members-clause-ok : goal.returns-then-not-are_members-clause-ok
returns-then-not-are_members-clause-ok c = λ sent place are.
    all_grown c.args.members sent c.args.packet c.args.queues.now.items (between_none c.args.members c.args.packet (sym c.if-not-are_members.ensures)) are

pub returns-clause-ok : goal.returns-clause-ok
returns-clause-ok c = λ sent place are.
    let pair = c.from.result * 8 + c.from-2.result in
    let is : pair_of c.args.packet ≡ c.from.result * 8 + c.from-2.result = omega (arith, c.from.ensures, c.from-2.ensures) in
    let within : c.from.result * 8 + c.from-2.result < 64 = search rules in
    let old = subst (IsQueueOf c.args.members (c.from.result * 8 + c.from-2.result) sent) (sym c.index_mut.ensures.value)
    (are.each (c.from.result * 8 + c.from-2.result) c.index_mut.result.now within) in
    let pushed = c.in_ok-push.ensures.items ∙ ap (λ n. c.index_mut.result.now.places.items ++ n ∷ []) place in
    set_queue c.args.members sent (sent ++ c.args.packet ∷ []) c.args.queues.now.items (c.from.result * 8 + c.from-2.result) _ within are
    (λ other x ne. grown_other c.args.members other sent c.args.packet x (between_other c.args.members other c.args.packet (λ e. ne (sym e ∙ is))))
    (grown_own c.args.members (c.from.result * 8 + c.from-2.result) sent c.args.packet c.index_mut.result.now
    (between_own c.args.members _ c.args.packet (sym c.if-not-are_members.ensures) is) old _ pushed refl)
