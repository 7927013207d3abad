use Rattle.std.proofs.Common.{◌≡◌, ◌<◌, ◌≤◌, false, length, get_or, sym, ap, subst, ◌∙◌}
use Rattle.std.specs.Prelude.{slice_get}
use Rattle.script_program.specs.Queue.{ArePassed, delivered_at}
use Rattle.script_program.proofs.Queues.{found_here, copied_is}
use Rattle.script_program.proofs.player.queue.first_in.Goals as goal

pub returns-clause-value : goal.returns-clause-value
returns-clause-value c = λ passed.
    let same = c.as_slice.ensures.value in
    let told = c.first_waiting-queue.ensures in
    c.copied.ensures ∙ copied_is c.deref.result.now c.first_waiting-queue.result c.get.result c.get.ensures.lookup.0 c.get.ensures.lookup.1
    ∙ ap (λ xs. slice_get xs c.first_waiting-queue.result) c.deref.ensures.value
    ∙ found_here c.args.sent.now c.args.queue.now.places.items c.first_waiting-queue.result
    (subst (λ xs. c.first_waiting-queue.result ≤ length xs) same told.within)
    (subst (λ xs. ArePassed c.args.sent.now xs c.first_waiting-queue.result) same
    (told.passed (subst (λ xs. ArePassed c.args.sent.now xs c.args.queue.now.passed) (sym same) passed)))
    (subst (λ xs. c.first_waiting-queue.result < length xs → delivered_at c.args.sent.now (get_or xs c.first_waiting-queue.result 0) ≡ false) same told.stops)
