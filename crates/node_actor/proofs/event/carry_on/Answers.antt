-- The machine is made of the snapshot that the node takes.
use Rattle.std.proofs.Common.{◌≡◌, Err, ap, refl, rules, arith}
use Rattle.replica_machine.specs.declared.fault.LoadFault.TheVariants as load
use Rattle.actor_parts.specs.Snapshots.{unboxed}
use Rattle.actor_parts.proofs.Basing.{base_made}
use Rattle.actor_parts.proofs.Carrying.{spoiled_sound}
use Rattle.node_actor.specs.Steps.{makes_none, makes_stop, carries}
use Rattle.node_actor.proofs.Carrying.{ended_before}
use Rattle.node_actor.proofs.Seating.{seated_spoiled}
use Rattle.node_actor.proofs.event.carry_on.Goals as goal

pub carry_out-requires-clause-base : goal.carry_out-requires-clause-base
carry_out-requires-clause-base g c =
    base_made g.M.Machine.content g.M.Machine.loaded g.K.Keeper.holds g.K.Keeper.is_failed c.args.parts.now c.args.outcome
    (c.requires.sound.serves c.requires.serving) (unboxed c.in-Ok.made) c.in-Ok.ensures.made

pub returns-in-Ok-clause-did : goal.returns-in-Ok-clause-did
returns-in-Ok-clause-did g c = carries (unboxed c.in-Ok.made) c.carry_out.result c.in-Ok.ensures.made c.carry_out.ensures.did

pub returns-in-Err-Damaged-clause-sound : goal.returns-in-Err-Damaged-clause-sound
returns-in-Err-Damaged-clause-sound g c =
    rw c.spoil.ensures (spoiled_sound _ _ _ c.args.parts.now c.requires.sound c.requires.serving)

pub returns-in-Err-Damaged-clause-seated : goal.returns-in-Err-Damaged-clause-seated
returns-in-Err-Damaged-clause-seated g c =
    rw c.spoil.ensures (seated_spoiled g.M.Body.Body.same c.args.parts.now c.args.seat.now c.requires.seated)

pub returns-in-Err-Damaged-clause-did : goal.returns-in-Err-Damaged-clause-did
returns-in-Err-Damaged-clause-did g c =
    let fault : c.in-Err-Damaged.field-0 ≡ load.Damaged = search rules in
    let none = c.in-Err-Damaged.ensures.damaged (ap Err fault) in
    rw c.spoil.ensures (makes_none none refl (ended_before g.M.Machine.steps g.M.Machine.content g.K.Keeper.holds g.K.Keeper.finds
    g.K.Keeper.failures g.K.Keeper.is_failed c.args.parts.now c.args.seat.now (c.requires.sound.serves c.requires.serving)))

pub returns-in-Err-Memory-clause-sound : goal.returns-in-Err-Memory-clause-sound
returns-in-Err-Memory-clause-sound g c =
    rw c.stop.ensures.spoiled (spoiled_sound _ _ _ c.args.parts.now c.requires.sound c.requires.serving)

pub returns-in-Err-Memory-clause-seated : goal.returns-in-Err-Memory-clause-seated
returns-in-Err-Memory-clause-seated g c =
    rw c.stop.ensures.spoiled (seated_spoiled g.M.Body.Body.same c.args.parts.now c.args.seat.now c.requires.seated)

pub returns-in-Err-Memory-clause-did : goal.returns-in-Err-Memory-clause-did
returns-in-Err-Memory-clause-did g c =
    rw c.stop.ensures.spoiled (makes_stop c.stop.result c.stop.ensures.fault refl (ended_before g.M.Machine.steps g.M.Machine.content
    g.K.Keeper.holds g.K.Keeper.finds g.K.Keeper.failures g.K.Keeper.is_failed c.args.parts.now c.args.seat.now
    (c.requires.sound.serves c.requires.serving)))

pub returns-in-Err-Damaged-clause-counts : goal.returns-in-Err-Damaged-clause-counts
returns-in-Err-Damaged-clause-counts g c = rw c.spoil.ensures (omega arith)

pub returns-in-Err-Memory-clause-counts : goal.returns-in-Err-Memory-clause-counts
returns-in-Err-Memory-clause-counts g c = rw c.stop.ensures.spoiled (omega arith)
