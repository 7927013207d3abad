use Rattle.std.proofs.Common.{◌≤◌, ◌+◌, ◌^◌, suc, arith, length}
use Rattle.node_actor.proofs.TriesOn.{trying_by}
use Rattle.node_actor.proofs.making.try_one.Goals as goal

pub returns-clause-trying : goal.returns-clause-trying
returns-clause-trying g c =
    let few : c.args.seat.now.part.events + suc (length c.args.staged.now.tried) ≤ 2 ^ 62 =
    omega (arith, c.if-saturating_add-ge-MOST_EVENTS.false, c.saturating_add.ensures, c.len.ensures, c.events.ensures) in
    trying_by g.M.Body.Body.same g.K.Keeper.holds g.K.Keeper.is_failed c.args.parts.now c.try_event.new.self c.args.seat.now c.args.staged.now
    c.requires.trying c.try_event.ensures.me c.try_event.ensures.members c.try_event.ensures.rest c.args.event c.try_event.new.staged
    c.requires.received few c.try_event.result c.try_event.ensures.ok c.try_event.ensures.err
