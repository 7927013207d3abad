use Rattle.std.proofs.Common.{◌≡◌, [], Some, rules}
use Rattle.actor_parts.specs.declared.fault.ActorFault.TheVariants as fault
use Rattle.actor_parts.proofs.Carrying.{spoiled_sound}
use Rattle.node_actor.proofs.RoundMakes.{made_says, made_silent, lost_says, lost_silent, no_round, no_room, ended_before, not_kept, is_other}
use Rattle.node_actor.proofs.RoundMakes.{is_worn_out, no_memory}
use Rattle.node_actor.proofs.Seating.{seated_spoiled}
use Rattle.node_actor.proofs.Viewing.{reaches_here}
use Rattle.node_actor.proofs.making.make_alone.Goals as goal

-- the event was made

pub returns-in_default-clause-sound : goal.returns-in_default-clause-sound
returns-in_default-clause-sound g c =
    rw c.spoil.ensures (spoiled_sound _ _ _ c.make_event.new.parts c.make_event.ensures.sound
    (c.in-Ok.ensures.acts [] c.args.seat.now (reaches_here c.args.parts.now.spoiled (Some c.args.event.now) c.args.seat.now)).1)

pub returns-in_default-clause-seated : goal.returns-in_default-clause-seated
returns-in_default-clause-seated g c =
    rw c.spoil.ensures (seated_spoiled g.M.Body.Body.same c.make_event.new.parts c.make_event.new.seat c.make_event.ensures.seated)

pub returns-in_default-clause-counts : goal.returns-in_default-clause-counts
returns-in_default-clause-counts g c = rw c.spoil.ensures c.make_event.ensures.counts

pub returns-in_default-clause-makes : goal.returns-in_default-clause-makes
returns-in_default-clause-makes g c =
    rw c.spoil.ensures (made_silent g.M.Body.Body.same g.M.Machine.steps g.M.Machine.content g.M.Machine.loaded g.K.Keeper.holds
    g.K.Keeper.finds g.K.Keeper.failures c.args.event.now c.args.parts.now c.make_event.new.parts c.args.seat.now c.make_event.new.seat c.in-Ok.more c.args.says.now.items
    c.append.new.list.items
    (c.in-Ok.ensures.acts [] c.args.seat.now (reaches_here c.args.parts.now.spoiled (Some c.args.event.now) c.args.seat.now))
    (c.in-Ok.ensures.seat c.requires.serving) c.in_default.ensures.err)

pub returns-in-Ok-append-clause-makes : goal.returns-in-Ok-append-clause-makes
returns-in-Ok-append-clause-makes g c =
    made_says g.M.Body.Body.same g.M.Machine.steps g.M.Machine.content g.M.Machine.loaded g.K.Keeper.holds g.K.Keeper.finds g.K.Keeper.failures
    c.args.event.now c.args.parts.now c.make_event.new.parts c.args.seat.now c.make_event.new.seat c.in-Ok.more tt c.args.says.now.items
    c.append.new.list.items
    (c.in-Ok.ensures.acts [] c.args.seat.now (reaches_here c.args.parts.now.spoiled (Some c.args.event.now) c.args.seat.now))
    (c.in-Ok.ensures.seat c.requires.serving) c.in-Ok-append.ensures.ok

-- the node is lost by it

pub returns-in_default-append-clause-makes : goal.returns-in_default-append-clause-makes
returns-in_default-append-clause-makes g c =
    let is : c.in-Err-LostHere.field-0 ≡ fault.LostHere c.in-Err-LostHere.more = search rules in
    lost_silent g.M.Body.Body.same g.M.Machine.steps g.M.Machine.content g.M.Machine.loaded g.K.Keeper.holds g.K.Keeper.finds g.K.Keeper.failures
    c.args.event.now c.args.parts.now c.make_event.new.parts c.args.seat.now c.make_event.new.seat c.in-Err-LostHere.field-0 c.in-Err-LostHere.more is
    (c.in-Err-LostHere.ensures.acts [] c.args.seat.now (reaches_here c.args.parts.now.spoiled (Some c.args.event.now) c.args.seat.now))
    (c.in-Err-LostHere.ensures.seat c.requires.serving) c.args.says.now.items c.append-in-Err-LostHere.new.list.items c.in_default-append.ensures.err

pub returns-in-Ok-append-2-clause-makes : goal.returns-in-Ok-append-2-clause-makes
returns-in-Ok-append-2-clause-makes g c =
    let is : c.in-Err-LostHere.field-0 ≡ fault.LostHere c.in-Err-LostHere.more = search rules in
    lost_says g.M.Body.Body.same g.M.Machine.steps g.M.Machine.content g.M.Machine.loaded g.K.Keeper.holds g.K.Keeper.finds g.K.Keeper.failures
    c.args.event.now c.args.parts.now c.make_event.new.parts c.args.seat.now c.make_event.new.seat c.in-Err-LostHere.field-0 c.in-Err-LostHere.more is
    (c.in-Err-LostHere.ensures.acts [] c.args.seat.now (reaches_here c.args.parts.now.spoiled (Some c.args.event.now) c.args.seat.now))
    (c.in-Err-LostHere.ensures.seat c.requires.serving) c.silence.result c.silence.ensures c.args.says.now.items
    c.append-in-Err-LostHere.new.list.items c.in-Ok-append-2.ensures.ok

-- it was not made, or memory ran out

pub returns-in-Err-Rounds-clause-makes : goal.returns-in-Err-Rounds-clause-makes
returns-in-Err-Rounds-clause-makes g c =
    let is : c.in-Err-Rounds.field-0 ≡ fault.Rounds = search rules in
    no_round g.M.Body.Body.same g.M.Machine.steps g.M.Machine.content g.M.Machine.loaded g.K.Keeper.holds g.K.Keeper.finds g.K.Keeper.failures
    c.args.event.now c.args.parts.now c.make_event.new.parts c.args.seat.now c.make_event.new.seat c.in-Err-Rounds.field-0
    (c.in-Err-Rounds.ensures.acts [] c.args.seat.now (reaches_here c.args.parts.now.spoiled (Some c.args.event.now) c.args.seat.now))
    (c.in-Err-Rounds.ensures.seat c.requires.serving) c.args.says.now.items tt is c.requires.serving

pub returns-in-Err-Full-clause-makes : goal.returns-in-Err-Full-clause-makes
returns-in-Err-Full-clause-makes g c =
    let is : c.in-Err-Full.field-0 ≡ fault.Full = search rules in
    no_room g.M.Body.Body.same g.M.Machine.steps g.M.Machine.content g.M.Machine.loaded g.K.Keeper.holds g.K.Keeper.finds g.K.Keeper.failures
    c.args.event.now c.args.parts.now c.make_event.new.parts c.args.seat.now c.make_event.new.seat c.in-Err-Full.field-0
    (c.in-Err-Full.ensures.acts [] c.args.seat.now (reaches_here c.args.parts.now.spoiled (Some c.args.event.now) c.args.seat.now))
    (c.in-Err-Full.ensures.seat c.requires.serving) c.args.says.now.items is

pub returns-in-Err-Failed-clause-makes : goal.returns-in-Err-Failed-clause-makes
returns-in-Err-Failed-clause-makes g c =
    let is : c.in-Err-Failed.field-0 ≡ fault.Failed = search rules in
    ended_before g.M.Body.Body.same g.M.Machine.steps g.M.Machine.content g.M.Machine.loaded g.K.Keeper.holds g.K.Keeper.finds g.K.Keeper.failures
    c.args.event.now c.args.parts.now c.make_event.new.parts c.args.seat.now c.make_event.new.seat c.in-Err-Failed.field-0
    (c.in-Err-Failed.ensures.acts [] c.args.seat.now (reaches_here c.args.parts.now.spoiled (Some c.args.event.now) c.args.seat.now))
    (c.in-Err-Failed.ensures.seat c.requires.serving) c.args.says.now.items is c.requires.serving

pub returns-in-Err-Keeper-clause-makes : goal.returns-in-Err-Keeper-clause-makes
returns-in-Err-Keeper-clause-makes g c =
    let is : c.in-Err-Keeper.field-0 ≡ fault.Keeper c.in-Err-Keeper.fault = search rules in
    not_kept g.M.Body.Body.same g.M.Machine.steps g.M.Machine.content g.M.Machine.loaded g.K.Keeper.holds g.K.Keeper.finds g.K.Keeper.failures
    c.args.event.now c.args.parts.now c.make_event.new.parts c.args.seat.now c.make_event.new.seat c.in-Err-Keeper.field-0
    (c.in-Err-Keeper.ensures.acts [] c.args.seat.now (reaches_here c.args.parts.now.spoiled (Some c.args.event.now) c.args.seat.now))
    (c.in-Err-Keeper.ensures.seat c.requires.serving) c.args.says.now.items c.in-Err-Keeper.fault is

pub returns-in-Err-Disagree-clause-makes : goal.returns-in-Err-Disagree-clause-makes
returns-in-Err-Disagree-clause-makes g c =
    let is : c.in-Err-Disagree.field-0 ≡ fault.Disagree = search rules in
    is_other g.M.Body.Body.same g.M.Machine.steps g.M.Machine.content g.M.Machine.loaded g.K.Keeper.holds g.K.Keeper.finds g.K.Keeper.failures
    c.args.event.now c.args.parts.now c.make_event.new.parts c.args.seat.now c.make_event.new.seat c.in-Err-Disagree.field-0
    (c.in-Err-Disagree.ensures.acts [] c.args.seat.now (reaches_here c.args.parts.now.spoiled (Some c.args.event.now) c.args.seat.now))
    (c.in-Err-Disagree.ensures.seat c.requires.serving) c.args.says.now.items is

pub returns-in-Err-Worn-clause-makes : goal.returns-in-Err-Worn-clause-makes
returns-in-Err-Worn-clause-makes g c =
    let is : c.in-Err-Worn.field-0 ≡ fault.Worn = search rules in
    is_worn_out g.M.Body.Body.same g.M.Machine.steps g.M.Machine.content g.M.Machine.loaded g.K.Keeper.holds g.K.Keeper.finds g.K.Keeper.failures
    c.args.event.now c.args.parts.now c.make_event.new.parts c.args.seat.now c.make_event.new.seat c.in-Err-Worn.field-0
    (c.in-Err-Worn.ensures.acts [] c.args.seat.now (reaches_here c.args.parts.now.spoiled (Some c.args.event.now) c.args.seat.now))
    (c.in-Err-Worn.ensures.seat c.requires.serving) c.args.says.now.items is

pub returns-in-Err-Memory-clause-makes : goal.returns-in-Err-Memory-clause-makes
returns-in-Err-Memory-clause-makes g c =
    let is : c.in-Err-Memory.field-0 ≡ fault.Memory = search rules in
    no_memory g.M.Body.Body.same g.M.Machine.steps g.M.Machine.content g.M.Machine.loaded g.K.Keeper.holds g.K.Keeper.finds g.K.Keeper.failures
    c.args.event.now c.args.parts.now c.make_event.new.parts c.args.seat.now c.make_event.new.seat c.in-Err-Memory.field-0
    (c.in-Err-Memory.ensures.acts [] c.args.seat.now (reaches_here c.args.parts.now.spoiled (Some c.args.event.now) c.args.seat.now))
    (c.in-Err-Memory.ensures.seat c.requires.serving) c.args.says.now.items is
