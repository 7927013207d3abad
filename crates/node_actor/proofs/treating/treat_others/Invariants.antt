use Rattle.paxos_packets.specs.Members.{IsMember}
use Rattle.actor_parts.specs.Steps.{StaysWho}
use Rattle.actor_parts.specs.Tried.{events_in}
use Rattle.mail_table.specs.Seats.{Owns}
use Rattle.node_actor.specs.Trying.{acting_before, Trying}
use Rattle.node_actor.proofs.WholeRound.{Treated}
use Rattle.node_actor.proofs.treating.treat_others.Given as goal

abbrev pub invariant-loop-step : goal.invariant-loop-step
invariant-loop-step g l =
    Treated g.M.Body.Body.same g.M.Machine.steps g.M.Machine.content g.M.Machine.loaded g.K.Keeper.holds g.K.Keeper.finds g.K.Keeper.failures
    l.initial.parts.node.me l.initial.parts.node.members l.fn.first l._step l.from (events_in l.initial.staged.tried)
    (acting_before l.initial.parts l.initial.seat) l.initial.says.items l.initial.came (events_in l.staged.tried) (acting_before l.parts l.seat)
    l.says.items l.came
    × IsMember l.initial.parts.node.members l.from × StaysWho l.initial.parts l.parts × Owns l.mail l.seat
    × Trying g.M.Body.Body.same g.K.Keeper.holds g.K.Keeper.is_failed l.parts l.seat l.staged
