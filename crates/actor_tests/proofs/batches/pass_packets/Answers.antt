use Rattle.std.proofs.Common.{◌≡◌, subst}
use Rattle.cluster_world.specs.Has.{Has}
use Rattle.actor_tests.proofs.InBatch.{in_one, in_two}
use Rattle.actor_tests.proofs.batches.pass_packets.Goals as goal

pub pass-requires-clause-first_sent : goal.pass-requires-clause-first_sent
pass-requires-clause-first_sent g c = λ p h.
    in_one (Has c.args.one.now.part.seen.sent) c.args.first c.requires.first.0 p (subst (λ l. Has l p) c.of-first.ensures h)

pub pass-requires-clause-first_addressed : goal.pass-requires-clause-first_addressed
pass-requires-clause-first_addressed g c = λ p h.
    in_one (λ q. q.addressee ≡ 2) c.args.first c.requires.first.1 p (subst (λ l. Has l p) c.of-first.ensures h)

pub pass-requires-clause-second_sent : goal.pass-requires-clause-second_sent
pass-requires-clause-second_sent g c = λ p h.
    in_two (Has c.args.one.now.part.seen.sent) c.args.second c.args.third c.requires.second.0 c.requires.third.0 p
    (subst (λ l. Has l p) c.together-second.ensures h)

pub pass-requires-clause-second_addressed : goal.pass-requires-clause-second_addressed
pass-requires-clause-second_addressed g c = λ p h.
    in_two (λ q. q.addressee ≡ 2) c.args.second c.args.third c.requires.second.1 c.requires.third.1 p
    (subst (λ l. Has l p) c.together-second.ensures h)
