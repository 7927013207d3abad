use Rattle.actor_run.proofs.Making.{turned_ok, turned_err}
use Rattle.actor_run.proofs.run.take_turn.Goals as goal

pub returns-in-Ok-clause-turned : goal.returns-in-Ok-clause-turned
returns-in-Ok-clause-turned g c = λ held o w.
    turned_ok g.M.Body.Body.same g.M.Machine.steps g.M.Machine.content g.M.Machine.loaded g.F.Feed.saw o
    g.K.Keeper.holds g.K.Keeper.finds g.K.Keeper.failures held c.args.actor.now c.turn.new.self c.args.feed.now c.hand.new.self c.in-Ok.says
    c.in-Ok.ensures.spoiled c.in-Ok.ensures.turns c.in-Ok.ensures.me c.in-Ok.ensures.members c.hand.ensures w

pub returns-in-Err-clause-turned : goal.returns-in-Err-clause-turned
returns-in-Err-clause-turned g c = λ held o w.
    turned_err g.M.Body.Body.same g.M.Machine.steps g.M.Machine.content g.M.Machine.loaded g.F.Feed.saw o
    g.K.Keeper.holds g.K.Keeper.finds g.K.Keeper.failures held c.args.actor.now c.turn.new.self c.args.feed.now c.strip_sayings.new.feed c.in-Err.fault
    c.strip_sayings.result c.in-Err.ensures.spoiled c.in-Err.ensures.turns c.strip_sayings.ensures.quiet c.strip_sayings.ensures.told w
