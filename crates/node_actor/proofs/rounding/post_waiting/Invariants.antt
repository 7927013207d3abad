use Rattle.std.proofs.Common.{◌≡◌, false}
use Rattle.actor_parts.specs.Parts.{IsSound}
use Rattle.mail_table.specs.Seats.{Owns}
use Rattle.node_actor.specs.Actor.{acting, IsSeated}
use Rattle.node_actor.proofs.Batching.{EachBelow}
use Rattle.node_actor.proofs.rounding.post_waiting.Given as goal

abbrev pub invariant-loop-peer : goal.invariant-loop-peer
invariant-loop-peer g l =
    EachBelow l.peer l.posted (acting l.initial.parts l.initial.seat) (acting l.parts l.seat) l.initial.seat l.seat
    × IsSound g.M.Body.Body.same g.K.Keeper.holds g.K.Keeper.is_failed l.parts × IsSeated g.M.Body.Body.same (acting l.parts l.seat)
    × Owns l.mail l.seat × (l.parts.spoiled ≡ false)
