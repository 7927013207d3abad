use Rattle.actor_run.specs.Runs.{Outset}
use Rattle.actor_run.proofs.RoundTaking.{begins}
use Rattle.actor_run.proofs.rounds.run_rounds.Goals as goal

pub returns-then-not-pass-clause-runs : goal.returns-then-not-pass-clause-runs
returns-then-not-pass-clause-runs g c = λ view gave got stands told.
    let o : Outset g.row.M-Body.Denot g.row.M-Say.Denot g.row.M.Denot g.row.K.Denot =
    record { actor = c.args.actor.now; view = view; gave = gave; got = got } in
    let first = begins g.M.Body.Body.same g.M.Machine.steps g.M.Machine.content g.M.Machine.loaded
    g.F.RoundFeed.saw o c.args.feed.now stands told in
    (c.loop-turn.events.items, c.loop-turn.invariant.3 o first)

pub returns-in-Err-clause-runs : goal.returns-in-Err-clause-runs
returns-in-Err-clause-runs g c = λ view gave got stands told.
    let o : Outset g.row.M-Body.Denot g.row.M-Say.Denot g.row.M.Denot g.row.K.Denot =
    record { actor = c.args.actor.now; view = view; gave = gave; got = got } in
    let first = begins g.M.Body.Body.same g.M.Machine.steps g.M.Machine.content g.M.Machine.loaded
    g.F.RoundFeed.saw o c.args.feed.now stands told in
    c.in-Err.ensures.passes o (c.loop-turn.invariant.3 o first)

pub returns-clause-runs : goal.returns-clause-runs
returns-clause-runs g c = λ view gave got stands told.
    let o : Outset g.row.M-Body.Denot g.row.M-Say.Denot g.row.M.Denot g.row.K.Denot =
    record { actor = c.args.actor.now; view = view; gave = gave; got = got } in
    let first = begins g.M.Body.Body.same g.M.Machine.steps g.M.Machine.content g.M.Machine.loaded
    g.F.RoundFeed.saw o c.args.feed.now stands told in
    (c.loop-turn.events.items, c.loop-turn.invariant.3 o first)

pub loop-turn-preserved : goal.loop-turn-preserved
loop-turn-preserved g c = (
  c.round.ensures.still_owned,
  c.in_default.ensures.own,
  c.in_default.ensures.few,
  λ o w. c.in_default.ensures.passes o (c.loop-turn.invariant.3 o w),
)
