use Rattle.std.proofs.Common.{◌≡◌, true, sym, subst}
use Rattle.node_actor.specs.Calls.{is_own}
use Rattle.actor_run.proofs.Making.{cut_asked, makes_ok, makes_err}
use Rattle.actor_run.specs.Events.{is_own_cut}
use Rattle.actor_run.proofs.events.make.Goals as goal

pub returns-in-Ok-clause-makes : goal.returns-in-Ok-clause-makes
returns-in-Ok-clause-makes g c = λ o u.
    makes_ok g.M.Body.Body.same g.M.Machine.steps g.M.Machine.content g.M.Machine.loaded g.F.Feed.saw o
    g.K.Keeper.holds g.K.Keeper.finds g.K.Keeper.failures c.args.actor.now c.event.new.self c.args.feed.now c.hand.new.self c.args.event
    c.in-Ok.says c.in-Ok.ensures.acts (subst (λ k. is_own k c.args.event ≡ true) c.me-2.ensures (sym c.if-not-is_own.ensures))
    c.in-Ok.ensures.me c.in-Ok.ensures.members c.hand.ensures u

pub returns-in-Err-clause-makes : goal.returns-in-Err-clause-makes
returns-in-Err-clause-makes g c = λ o u.
    makes_err g.M.Body.Body.same g.M.Machine.steps g.M.Machine.content g.M.Machine.loaded g.F.Feed.saw o
    g.K.Keeper.holds g.K.Keeper.finds g.K.Keeper.failures c.args.actor.now c.event.new.self c.args.feed.now c.refused.new.feed c.args.event
    c.in-Err.fault c.refused.result c.in-Err.ensures.acts c.refused.ensures u

-- a cut of the node asks nothing, whatever it carries
pub returns-then-is_own_cut-clause-makes : goal.returns-then-is_own_cut-clause-makes
returns-then-is_own_cut-clause-makes g c = λ o u.
    c.cut.ensures.makes o (cut_asked g.M.Body.Body.same g.M.Machine.steps g.M.Machine.content g.M.Machine.loaded g.F.Feed.saw o c.args.actor.now
    c.args.feed.now c.args.event (subst (λ k. is_own_cut k c.args.event ≡ true) c.me.ensures (sym c.if-is_own_cut.ensures)) u)
