use Rattle.mail_table.specs.Seats.{Owns}
use Rattle.actor_run.specs.Runs.{Outset, Waits}
use Rattle.actor_run.proofs.events.make_events.Given as goal

-- what waited at first waits on
abbrev pub invariant-loop : goal.invariant-loop
invariant-loop g l =
    Owns l.mail l.actor.seat × ((o : Outset g.row.M-Body.Denot g.row.M-Say.Denot g.row.M.Denot g.row.K.Denot)
    → Waits g.M.Body.Body.same g.M.Machine.steps g.M.Machine.content g.M.Machine.loaded g.F.Feed.saw l.fn.held o l.fn.actor
    l.fn.feed
    → Waits g.M.Body.Body.same g.M.Machine.steps g.M.Machine.content g.M.Machine.loaded g.F.Feed.saw l.held o l.actor l.feed)
