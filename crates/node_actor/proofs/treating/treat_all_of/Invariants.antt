use Rattle.std.proofs.Common.{◌≤◌}
use Rattle.actor_parts.specs.Steps.{StaysWho}
use Rattle.actor_parts.specs.Tried.{events_in}
use Rattle.mail_table.specs.Seats.{Owns}
use Rattle.node_actor.specs.Trying.{acting_before, Trying}
use Rattle.node_actor.proofs.Treated.{Looks}
use Rattle.node_actor.proofs.treating.treat_all_of.Given as goal

abbrev pub invariant-looks : goal.invariant-looks
invariant-looks g l =
    Looks g.M.Body.Body.same g.M.Machine.steps g.M.Machine.content g.M.Machine.loaded g.K.Keeper.holds g.K.Keeper.finds g.K.Keeper.failures l.from
    64 l.room (events_in l.initial.staged.tried) (acting_before l.initial.parts l.initial.seat) l.initial.says.items l.initial.came
    (events_in l.staged.tried) (acting_before l.parts l.seat) l.says.items l.came
    × Trying g.M.Body.Body.same g.K.Keeper.holds g.K.Keeper.is_failed l.parts l.seat l.staged × Owns l.mail l.seat
    × StaysWho l.initial.parts l.parts × (l.room ≤ 64)

abbrev pub decreases-looks : goal.decreases-looks
decreases-looks g l = l.room
