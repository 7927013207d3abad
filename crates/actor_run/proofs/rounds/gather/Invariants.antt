use Rattle.std.proofs.Common.{◌≡◌, ◌≤◌, ◌+◌, true}
use Rattle.std.specs.Prelude.{All, vec_len, vec_capacity}
use Rattle.mail_table.specs.Seats.{Owns}
use Rattle.node_actor.specs.Calls.{is_own}
use Rattle.actor_run.specs.Events.{asked_in}
use Rattle.actor_run.specs.RoundRuns.{Pauses}
use Rattle.actor_run.specs.Runs.{Outset, Underway}
use Rattle.actor_run.proofs.rounds.gather.Given as goal

-- there is room for what is still to be asked for, and the acts of the events that came are late
abbrev pub invariant-loop-turn : goal.invariant-loop-turn
invariant-loop-turn g l =
    Owns l.mail l.actor.seat × All (λ e. is_own l.actor.node.me e ≡ true) l.events.items
    × (vec_len l.events ≤ vec_len l.fn.events + l._turn) × (vec_len l.fn.events + l.room ≤ vec_capacity l.events)
    × ((o : Outset g.row.M-Body.Denot g.row.M-Say.Denot g.row.M.Denot g.row.K.Denot)
    → Pauses g.M.Body.Body.same g.M.Machine.steps g.M.Machine.content g.M.Machine.loaded g.F.RoundFeed.saw
    l.fn.events.items o l.fn.actor l.fn.feed
    → Underway g.M.Body.Body.same g.M.Machine.steps g.M.Machine.content g.M.Machine.loaded g.F.RoundFeed.saw
    (asked_in o.actor.node.me l.events.items) o l.actor l.feed)
