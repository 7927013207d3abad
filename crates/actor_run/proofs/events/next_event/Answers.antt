use Rattle.std.proofs.Common.{subst}
use Rattle.actor_run.specs.Runs.{Waits}
use Rattle.actor_run.proofs.Lists.{none_seen}
use Rattle.actor_run.proofs.Making.{next_of}
use Rattle.actor_run.proofs.events.next_event.Goals as goal

pub returns-then-is_none-clause-next : goal.returns-then-is_none-clause-next
returns-then-is_none-clause-next g c = λ o w.
    next_of g.M.Body.Body.same g.M.Machine.steps g.M.Machine.content g.M.Machine.loaded g.F.Feed.saw o
    c.args.actor.now c.args.feed.now c.next.new.self c.next.result c.next.ensures
    (subst (λ h. Waits g.M.Body.Body.same g.M.Machine.steps g.M.Machine.content g.M.Machine.loaded g.F.Feed.saw h
    o c.args.actor.now c.args.feed.now) (none_seen c.args.held.now c.if-is_none.ensures) w)
