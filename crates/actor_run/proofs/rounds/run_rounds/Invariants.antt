use Rattle.std.proofs.Common.{◌≡◌, ◌≤◌, true, []}
use Rattle.std.specs.Prelude.{All, vec_len}
use Rattle.mail_table.specs.Seats.{Owns}
use Rattle.node_actor.specs.Calls.{is_own}
use Rattle.actor_run.specs.RoundRuns.{Pauses}
use Rattle.actor_run.specs.Runs.{Outset}
use Rattle.actor_run.proofs.rounds.run_rounds.Given as goal

-- what went on from the beginning goes on
abbrev pub invariant-loop-turn : goal.invariant-loop-turn
invariant-loop-turn g l =
    Owns l.mail l.actor.seat × All (λ e. is_own l.actor.node.me e ≡ true) l.events.items × (vec_len l.events ≤ 64)
    × ((o : Outset g.row.M-Body.Denot g.row.M-Say.Denot g.row.M.Denot g.row.K.Denot)
    → Pauses g.M.Body.Body.same g.M.Machine.steps g.M.Machine.content g.M.Machine.loaded g.F.RoundFeed.saw []
    o l.fn.actor l.fn.feed
    → Pauses g.M.Body.Body.same g.M.Machine.steps g.M.Machine.content g.M.Machine.loaded g.F.RoundFeed.saw
    l.events.items o l.actor l.feed)
