use Rattle.std.proofs.Common.{◌≡◌, ◌+◌, ◌/◌, ◌%◌, not, sym, ap, subst, ◌∙◌, arith}
use Rattle.std.specs.Prelude.{slice_get}
use Rattle.std.specs.List.{find}
use Rattle.std.proofs.lemmas.Bool.{false≢true, and_parts, and_from}
use Rattle.script_program.specs.Queue.{IsQueueOf, delivered_at}
use Rattle.script_program.specs.Waiting.{is_listed}
use Rattle.script_program.proofs.Firsts.{first_same, first_never, queue_first}
use Rattle.script_program.proofs.Pairs.{due_between, due_elsewhere}
use Rattle.script_program.proofs.player.queue.first_of_pair.Goals as goal

pub returns-then-not-is_pair_listed-clause-value : goal.returns-then-not-is_pair_listed-clause-value
returns-then-not-is_pair_listed-clause-value c =
    sym (first_never _ (due_elsewhere c.args.members c.args.among c.args.pair c.requires.few
    (λ first second. false≢true (c.if-not-is_pair_listed.ensures ∙ and_from _ _ first second))) 0 c.args.sent.now)

pub returns-clause-value : goal.returns-clause-value
returns-clause-value c =
    let sent = c.args.sent.now in
    let q = c.index_mut.result.now in
    let kept : IsQueueOf c.args.members c.args.pair c.args.sent.now c.index_mut.result.now =
    subst (IsQueueOf c.args.members c.args.pair c.args.sent.now) (sym c.index_mut.ensures.value) (c.requires.queues.each c.args.pair c.index_mut.result.now c.requires.pair) in
    let listed = and_parts (is_listed c.args.members c.args.among (c.args.pair / 8)) (is_listed c.args.members c.args.among (c.args.pair % 8)) (sym c.if-not-is_pair_listed.ensures) in
    c.first_in.ensures.value kept.passed ∙ ap (find (λ place. not (delivered_at c.args.sent.now place))) kept.places
    ∙ queue_first c.args.sent.now c.args.members c.args.pair 0 c.args.sent.now (λ i. ap (slice_get c.args.sent.now) (let z : 0 + i ≡ i = omega arith in z))
    ∙ sym (first_same _ _ (due_between c.args.members c.args.among c.args.pair c.requires.few c.args.sent.now listed.0 listed.1) 0 c.args.sent.now)
