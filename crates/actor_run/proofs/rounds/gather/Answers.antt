use Rattle.std.proofs.Common.{◌≡◌, Err, Some, arith, refl, rules, subst, sym}
use Rattle.actor_run.specs.Events.{asked_in}
use Rattle.actor_run.specs.RoundRuns.{Gathers, by_memory}
use Rattle.actor_run.proofs.Gathering.{gave_none}
use Rattle.actor_run.proofs.Making.{given_on}
use Rattle.actor_run.proofs.rounds.gather.Goals as goal

pub loop-turn-preserved : goal.loop-turn-preserved
loop-turn-preserved g c =
    let was = c.loop-turn.invariant in (
      c.take_in.ensures.still_owned,
      c.take_in.ensures.own,
      omega (arith, was.2, c.take_in.ensures.length),
      rw c.take_in.ensures.capacity was.3,
      λ o w. c.in_ok-take_in.ensures.takes o (given_on g.M.Body.Body.same g.M.Machine.steps g.M.Machine.content g.M.Machine.loaded
          g.F.RoundFeed.saw o (asked_in o.actor.node.me c.loop-turn.events.items) c.loop-turn.actor c.loop-turn.feed c.next.new.self
          (Some c.in-Some.event) c.in-Some.ensures (was.4 o w)),
    )

pub returns-in_default-next-clause-gathers : goal.returns-in_default-next-clause-gathers
returns-in_default-next-clause-gathers g c = λ o w.
    gave_none g.M.Body.Body.same g.M.Machine.steps g.M.Machine.content g.M.Machine.loaded g.F.RoundFeed.saw o
    (asked_in o.actor.node.me c.loop-turn.events.items) c.loop-turn.actor c.loop-turn.feed c.next.new.self c.in_default-next.ensures
    (c.loop-turn.invariant.4 o w)

pub returns-in_default-clause-gathers : goal.returns-in_default-clause-gathers
returns-in_default-clause-gathers g c = λ o w. by_memory c.args.events.now.items refl w

pub returns-clause-gathers : goal.returns-clause-gathers
returns-clause-gathers g c = λ o w. c.loop-turn.invariant.4 o w

pub returns-in_err-take_in-clause-gathers : goal.returns-in_err-take_in-clause-gathers
returns-in_err-take_in-clause-gathers g c = λ o w.
    let given : c.from_residual.result ≡ Err c.in_err-take_in.field-0.0 = search rules in
    subst (λ r. Gathers g.M.Body.Body.same g.M.Machine.steps g.M.Machine.content g.M.Machine.loaded g.F.RoundFeed.saw g.K.Keeper.holds g.K.Keeper.finds g.K.Keeper.failures
    o c.take_in.new.actor c.take_in.new.feed c.take_in.new.events.items r) (sym given)
    (c.in_err-take_in.ensures.takes o (given_on g.M.Body.Body.same g.M.Machine.steps g.M.Machine.content g.M.Machine.loaded
    g.F.RoundFeed.saw o (asked_in o.actor.node.me c.loop-turn.events.items) c.loop-turn.actor c.loop-turn.feed c.next.new.self
    (Some c.in-Some.event) c.in-Some.ensures (c.loop-turn.invariant.4 o w)))
