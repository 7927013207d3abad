-- A round has come to the first of its own events; the rest is left, the other way round.
use Rattle.std.proofs.Common.{◌≡◌, true, reverse, vec_len}
use Rattle.std.specs.Prelude.{All}
use Rattle.actor_parts.specs.Steps.{StaysWho}
use Rattle.actor_parts.specs.Tried.{events_in}
use Rattle.mail_table.specs.Seats.{Owns}
use Rattle.node_actor.specs.Calls.{is_own}
use Rattle.node_actor.specs.Trying.{acting_before, Trying}
use Rattle.node_actor.proofs.OwnNext.{SoFar}
use Rattle.node_actor.proofs.making.make_all.Given as goal

abbrev pub invariant-loop-event : goal.invariant-loop-event
invariant-loop-event g l =
    SoFar g.M.Body.Body.same g.M.Machine.steps g.M.Machine.content g.M.Machine.loaded g.K.Keeper.holds g.K.Keeper.finds g.K.Keeper.failures
    (reverse l.initial.own.items) (acting_before l.initial.parts l.initial.seat) l.initial.says.items (reverse l.own.items)
    (events_in l.staged.tried) (acting_before l.parts l.seat) l.says.items
    × Trying g.M.Body.Body.same g.K.Keeper.holds g.K.Keeper.is_failed l.parts l.seat l.staged
    × Owns l.mail l.seat × StaysWho l.initial.parts l.parts × All (λ e. is_own l.initial.parts.node.me e ≡ true) l.own.items

abbrev pub decreases-loop-event : goal.decreases-loop-event
decreases-loop-event g l = vec_len l.own
