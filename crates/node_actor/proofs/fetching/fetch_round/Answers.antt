use Rattle.std.proofs.Common.{◌≡◌, ◌-◌, ◌+◌, ◌<◌, Some, arith, sym, subst, ◌∙◌, refl}
use Rattle.mail_table.specs.Seats.{knows}
use Rattle.node_actor.specs.Turns.{Fetches, others_from, passed_by}
use Rattle.node_actor.proofs.Rounds.{passes_on, wins_now}
use Rattle.node_actor.proofs.fetching.fetch_round.Goals as goal

pub returns-in-Some-clause-fetches : goal.returns-in-Some-clause-fetches
returns-in-Some-clause-fetches g c =
    let was = c.loop-step.invariant in
    let left : c.loop-step._step < c.args.members = omega (arith, c.loop-step-test.true, c.count-step-end.ensures.value) in
    was.4 (Some (c.loop-step.from, c.in-Some.packet)) c.fetch_other.new.seat.part
    (wins_now c.args.members c.args.seat.now.part.me c.loop-step.from c.loop-step._step c.loop-step.seat c.fetch_other.new.seat
    c.in-Some.packet
    left (was.3.2 ∙ sym c.requires.owned.2 ∙ c.requires.members) was.2 c.in-Some.ensures.fetched.0 c.in-Some.ensures.fetched.1)

pub loop-step-preserved : goal.loop-step-preserved
loop-step-preserved g c =
    let was = c.loop-step.invariant in
    let left : c.loop-step._step < c.args.members = omega (arith, c.loop-step-test.true, c.count-step-end.ensures.value) in
    let members : c.loop-step.seat.members ≡ c.args.members = was.3.2 ∙ sym c.requires.owned.2 ∙ c.requires.members in
    let passed : c.fetch_other.new.seat ≡ knows (passed_by c.loop-step.seat.members c.loop-step.from c.loop-step.seat.part)
    c.loop-step.seat =
    c.in_default.ensures.fetched in
    let on = passes_on c.args.members c.args.seat.now.part.me c.loop-step.from c.loop-step._step c.args.seat.now c.loop-step.seat
    c.fetch_other.new.seat
    left members was.2 was.1 passed refl in (
      c.after-from.ensures.member,
      on.0,
      on.1,
      c.fetch_other.ensures.owned,
      λ got y h. was.4 got y (on.2 got y
          (subst (λ k. Fetches c.args.members (others_from c.args.seat.now.part.me c.args.members k
          (c.args.members - (c.loop-step._step + 1)))
          c.fetch_other.new.seat.part got y) c.after-from.ensures.value h)),
    )
