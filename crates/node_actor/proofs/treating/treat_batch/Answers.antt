use Rattle.std.proofs.Common.{sym, subst}
use Rattle.cluster_world.specs.Has.{Has, here, there}
use Rattle.actor_parts.specs.Tried.{events_in}
use Rattle.node_actor.specs.MidRound.{Amid}
use Rattle.node_actor.specs.Trying.{acting_before}
use Rattle.node_actor.proofs.Looking.{came_still}
use Rattle.node_actor.proofs.treating.treat_batch.Goals as goal

pub treat-requires-clause-received : goal.treat-requires-clause-received
treat-requires-clause-received g c =
    c.requires.received c.into_parts-packet.result.0 (subst (λ ps. Has ps c.into_parts-packet.result.0) (sym c.into_parts-packet.ensures) here)

pub returns-in-Err-clause-treats : goal.returns-in-Err-clause-treats
returns-in-Err-clause-treats g c = λ own old view start at a.
    c.in-Err.ensures.treats own old view start at c.into_parts-packet.result.1.items
    (subst (λ ps. Amid g.M.Body.Body.same g.M.Machine.steps g.M.Machine.content g.M.Machine.loaded g.K.Keeper.holds g.K.Keeper.finds
    g.K.Keeper.failures own old view start at c.args.from ps (events_in c.args.staged.now.tried)
    (acting_before c.args.parts.now c.args.seat.now) c.args.says.now.items c.args.came.now) c.into_parts-packet.ensures a)

pub treat_each-requires-clause-received : goal.treat_each-requires-clause-received
treat_each-requires-clause-received g c = λ p h.
    came_still c.args.seat.now c.treat.new.seat c.treat.ensures.stays p
    (c.requires.received p (subst (λ ps. Has ps p) (sym c.into_parts-packet.ensures) (there h)))

pub returns-clause-treats : goal.returns-clause-treats
returns-clause-treats g c = λ own old view start at a.
    c.treat_each.ensures.treats own old view start at (c.in_default.ensures.treats own old view start at c.into_parts-packet.result.1.items
    (subst (λ ps. Amid g.M.Body.Body.same g.M.Machine.steps g.M.Machine.content g.M.Machine.loaded g.K.Keeper.holds g.K.Keeper.finds
    g.K.Keeper.failures own old view start at c.args.from ps (events_in c.args.staged.now.tried)
    (acting_before c.args.parts.now c.args.seat.now) c.args.says.now.items c.args.came.now) c.into_parts-packet.ensures a))
