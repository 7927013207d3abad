use Rattle.actor_run.specs.Runs.{Outset}
use Rattle.actor_run.proofs.Making.{sets_out}
use Rattle.actor_run.proofs.run.run_node.Goals as goal

pub returns-then-not-pass-clause-runs : goal.returns-then-not-pass-clause-runs
returns-then-not-pass-clause-runs g c = λ view gave got stands told.
    let o : Outset g.row.M-Body.Denot g.row.M-Say.Denot g.row.M.Denot g.row.K.Denot =
    record { actor = c.args.actor.now; view = view; gave = gave; got = got } in (
      c.loop-turn.held,
      c.loop-turn.invariant.1 o (sets_out g.M.Body.Body.same g.M.Machine.steps
          g.M.Machine.content g.M.Machine.loaded g.F.Feed.saw o c.args.feed.now stands told),
    )

pub returns-in-Err-clause-runs : goal.returns-in-Err-clause-runs
returns-in-Err-clause-runs g c = λ view gave got stands told.
    let o : Outset g.row.M-Body.Denot g.row.M-Say.Denot g.row.M.Denot g.row.K.Denot =
    record { actor = c.args.actor.now; view = view; gave = gave; got = got } in
    c.in-Err.ensures.makes o (c.loop-turn.invariant.1 o (sets_out g.M.Body.Body.same g.M.Machine.steps g.M.Machine.content g.M.Machine.loaded g.F.Feed.saw o
    c.args.feed.now stands told))

pub returns-clause-runs : goal.returns-clause-runs
returns-clause-runs g c = λ view gave got stands told.
    let o : Outset g.row.M-Body.Denot g.row.M-Say.Denot g.row.M.Denot g.row.K.Denot =
    record { actor = c.args.actor.now; view = view; gave = gave; got = got } in (
      c.loop-turn.held,
      c.loop-turn.invariant.1 o (sets_out g.M.Body.Body.same g.M.Machine.steps
          g.M.Machine.content g.M.Machine.loaded g.F.Feed.saw o c.args.feed.now stands told),
    )

pub loop-turn-preserved : goal.loop-turn-preserved
loop-turn-preserved g c = (c.round.ensures.still_owned, λ o w. c.in_default.ensures.makes o (c.loop-turn.invariant.1 o w))
