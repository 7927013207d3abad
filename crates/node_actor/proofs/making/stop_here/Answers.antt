use Rattle.node_actor.specs.Actor.{acting}
use Rattle.node_actor.specs.Trying.{acting_before}
use Rattle.node_actor.proofs.RoundNext.{all_end, all_made, stops_here}
use Rattle.node_actor.proofs.Seating.{seated_spoiled}
use Rattle.node_actor.proofs.making.stop_here.Goals as goal

-- a fault ends the round as they are made
pub returns-in-Err-clause-ends : goal.returns-in-Err-clause-ends
returns-in-Err-clause-ends g c =
    λ own rest old view start all looks fresh heads due.
    all_end g.M.Body.Body.same g.M.Machine.steps g.M.Machine.content g.M.Machine.loaded g.K.Keeper.holds g.K.Keeper.finds g.K.Keeper.failures
    old view start all _ looks (acting_before c.args.parts.now c.args.seat.now) (acting c.flush.new.parts c.flush.new.seat) c.args.says.now.items
    c.flush.new.says.items heads fresh own rest due c.in-Err.fault c.in-Err.ensures.makes

-- they are made, and memory has run out
pub returns-clause-seated : goal.returns-clause-seated
returns-clause-seated g c =
    rw c.spoil.ensures (seated_spoiled g.M.Body.Body.same c.flush.new.parts c.flush.new.seat c.flush.ensures.seated)

pub returns-clause-ends : goal.returns-clause-ends
returns-clause-ends g c =
    λ own rest old view start all looks fresh heads due.
    rw c.spoil.ensures (stops_here g.M.Body.Body.same g.M.Machine.steps g.M.Machine.content g.M.Machine.loaded g.K.Keeper.holds g.K.Keeper.finds
    g.K.Keeper.failures old view start all looks (acting c.flush.new.parts c.flush.new.seat) c.flush.new.says.items own rest fresh
    (all_made g.M.Body.Body.same g.M.Machine.steps g.M.Machine.content g.M.Machine.loaded g.K.Keeper.holds g.K.Keeper.finds g.K.Keeper.failures
    old view start all _ looks (acting_before c.args.parts.now c.args.seat.now) (acting c.flush.new.parts c.flush.new.seat) c.args.says.now.items
    c.flush.new.says.items heads tt c.in_default.ensures.makes) due)
