use Rattle.node_actor.specs.Snapshots.{own_cut}
use Rattle.actor_run.proofs.Making.{cut_ok, cut_err}
use Rattle.actor_run.proofs.events.cut.Goals as goal

pub returns-in-Ok-clause-makes : goal.returns-in-Ok-clause-makes
returns-in-Ok-clause-makes g c = λ o u.
    cut_ok g.M.Body.Body.same g.M.Machine.steps g.M.Machine.content g.M.Machine.loaded g.F.Feed.saw o g.K.Keeper.holds g.K.Keeper.finds
    g.K.Keeper.failures (own_cut g.M.Machine.saved g.M.Machine.content c.args.actor.now.log) c.args.actor.now c.cut.new.self c.args.feed.now
    c.hand.new.self c.in-Ok.says c.in-Ok.ensures.cuts c.in-Ok.ensures.me c.in-Ok.ensures.members c.hand.ensures u

pub returns-in-Err-clause-makes : goal.returns-in-Err-clause-makes
returns-in-Err-clause-makes g c = λ o u.
    cut_err g.M.Body.Body.same g.M.Machine.steps g.M.Machine.content g.M.Machine.loaded g.F.Feed.saw o g.K.Keeper.holds g.K.Keeper.finds
    g.K.Keeper.failures (own_cut g.M.Machine.saved g.M.Machine.content c.args.actor.now.log) c.args.actor.now c.cut.new.self c.args.feed.now
    c.strip_sayings.new.feed c.in-Err.fault c.strip_sayings.result c.in-Err.ensures.cuts c.strip_sayings.ensures.quiet
    c.strip_sayings.ensures.told u

pub returns-in-Ok-clause-cuts : goal.returns-in-Ok-clause-cuts
returns-in-Ok-clause-cuts g c = λ view stands. (c.in-Ok.says, c.in-Ok.ensures.cuts view stands)
