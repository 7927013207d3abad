use Rattle.std.proofs.Common.{◌≡◌, ◌≤◌, true, false, ap, sym, subst, ◌∙◌, rules, arith}
use Rattle.replica_machine.specs.Log.{LogState}
use Rattle.paxos_node.specs.Adopting.{Fits}
use Rattle.actor_parts.specs.Snapshots.{base_log, unboxed}
use Rattle.actor_parts.proofs.Carrying.{Roomed, Ready, stopped_sound, fallen_sound, spoiled_sound, ready, based}
use Rattle.node_actor.specs.Steps.{may_advance}
use Rattle.node_actor.proofs.Carrying.{stopped, worn_out, fallen, carried_on, sound_on}
use Rattle.node_actor.proofs.Seating.{seated_stopped, seated_fallen, seated_on, seated_spoiled}
use Rattle.node_actor.proofs.Viewing.{fits_on}
use Rattle.node_actor.proofs.event.carry_out.Goals as goal

pub returns-then-not-may_advance-clause-sound : goal.returns-then-not-may_advance-clause-sound
returns-then-not-may_advance-clause-sound g c =
    rw c.spoil.ensures (spoiled_sound _ _ _ c.args.parts.now c.requires.sound c.requires.serving)

pub returns-then-not-may_advance-clause-seated : goal.returns-then-not-may_advance-clause-seated
returns-then-not-may_advance-clause-seated g c =
    rw c.spoil.ensures (seated_spoiled g.M.Body.Body.same c.args.parts.now c.args.seat.now c.requires.seated)

pub returns-then-not-may_advance-clause-did : goal.returns-then-not-may_advance-clause-did
returns-then-not-may_advance-clause-did g c =
    let worn : may_advance c.args.seat.now ≡ false = search rules in
    rw c.spoil.ensures (worn_out _ _ _ _ _ _ (base_log (unboxed c.args.made) c.args.outcome.change.snapshot c.args.parts.now.log) c.args.outcome
    c.args.parts.now c.args.seat.now worn (c.requires.sound.serves c.requires.serving))

pub returns-in_default-clause-sound : goal.returns-in_default-clause-sound
returns-in_default-clause-sound g c =
    let room : Roomed c.args.parts.now c.make_room.new.self = record {
      state = c.make_room.ensures.state;
      me = c.make_room.ensures.me;
      members = c.make_room.ensures.members;
      rest = c.make_room.ensures.rest;
    } in
    rw c.spoil-in_default.ensures (stopped_sound _ _ _ c.args.parts.now c.make_room.new.self c.requires.sound c.requires.serving room)

pub returns-in_default-clause-seated : goal.returns-in_default-clause-seated
returns-in_default-clause-seated g c =
    let room : Roomed c.args.parts.now c.make_room.new.self = record {
      state = c.make_room.ensures.state;
      me = c.make_room.ensures.me;
      members = c.make_room.ensures.members;
      rest = c.make_room.ensures.rest;
    } in
    rw c.spoil-in_default.ensures (seated_stopped g.M.Body.Body.same c.args.parts.now c.make_room.new.self c.args.seat.now
    (c.requires.sound.serves c.requires.serving).committed room c.requires.seated)

pub returns-in_default-clause-did : goal.returns-in_default-clause-did
returns-in_default-clause-did g c =
    let room : Roomed c.args.parts.now c.make_room.new.self = record {
      state = c.make_room.ensures.state;
      me = c.make_room.ensures.me;
      members = c.make_room.ensures.members;
      rest = c.make_room.ensures.rest;
    } in
    let may : may_advance c.args.seat.now ≡ true = search rules in
    rw c.spoil-in_default.ensures (stopped _ _ _ _ _ _ _ c.args.outcome c.args.parts.now c.make_room.new.self c.args.seat.now may
    (c.requires.sound.serves c.requires.serving) room)

pub take_over-requires-clause-fits : goal.take_over-requires-clause-fits
take_over-requires-clause-fits g c =
    let room : Roomed c.args.parts.now c.make_room.new.self = record {
      state = c.make_room.ensures.state;
      me = c.make_room.ensures.me;
      members = c.make_room.ensures.members;
      rest = c.make_room.ensures.rest;
    } in
    subst (λ h. Fits h.me h.members c.args.outcome h.state) (sym c.go_from.ensures.rest.node)
    (fits_on g.M.Body.Body.same c.args.outcome c.args.parts.now c.make_room.new.self c.commit.new.self c.requires.plan room c.commit.ensures.rest)

pub take_over-requires-clause-alive : goal.take_over-requires-clause-alive
take_over-requires-clause-alive g c =
    ap (λ (log : LogState g.row.M-Body.Denot g.row.M.Denot). log.failed) (c.go_from.ensures.log
    ∙ ap (λ log. base_log (unboxed c.args.made) c.args.outcome.change.snapshot log) (c.commit.ensures.rest.log ∙ c.make_room.ensures.rest.log))
    ∙ c.requires.base.alive

pub take_over-requires-clause-end : goal.take_over-requires-clause-end
take_over-requires-clause-end g c =
    ap (λ (log : LogState g.row.M-Body.Denot g.row.M.Denot). log.ahead) (c.go_from.ensures.log
    ∙ ap (λ log. base_log (unboxed c.args.made) c.args.outcome.change.snapshot log) (c.commit.ensures.rest.log ∙ c.make_room.ensures.rest.log))
    ∙ c.requires.base.ahead

pub returns-in-Err-clause-sound : goal.returns-in-Err-clause-sound
returns-in-Err-clause-sound g c =
    let room : Roomed c.args.parts.now c.make_room.new.self = record {
      state = c.make_room.ensures.state;
      me = c.make_room.ensures.me;
      members = c.make_room.ensures.members;
      rest = c.make_room.ensures.rest;
    } in
    rw c.spoil_at.ensures (fallen_sound _ _ _ c.args.outcome c.args.parts.now c.make_room.new.self c.commit.new.self c.requires.sound
    c.requires.serving room c.commit.ensures.rest)

pub returns-in-Err-clause-seated : goal.returns-in-Err-clause-seated
returns-in-Err-clause-seated g c =
    let room : Roomed c.args.parts.now c.make_room.new.self = record {
      state = c.make_room.ensures.state;
      me = c.make_room.ensures.me;
      members = c.make_room.ensures.members;
      rest = c.make_room.ensures.rest;
    } in
    rw c.spoil_at.ensures (seated_fallen g.M.Body.Body.same c.args.outcome c.args.parts.now c.make_room.new.self c.commit.new.self
    c.args.seat.now
    c.requires.follows room c.commit.ensures.rest c.requires.plan (c.requires.sound.serves c.requires.serving).up c.requires.seated)

pub returns-in-Err-clause-did : goal.returns-in-Err-clause-did
returns-in-Err-clause-did g c =
    let room : Roomed c.args.parts.now c.make_room.new.self = record {
      state = c.make_room.ensures.state;
      me = c.make_room.ensures.me;
      members = c.make_room.ensures.members;
      rest = c.make_room.ensures.rest;
    } in
    let may : may_advance c.args.seat.now ≡ true = search rules in
    rw c.spoil_at.ensures (fallen _ _ _ _ _ _ (base_log (unboxed c.args.made) c.args.outcome.change.snapshot c.args.parts.now.log)
    c.args.outcome c.args.parts.now c.make_room.new.self c.commit.new.self c.args.seat.now c.in-Err.fault may
    (c.requires.sound.serves c.requires.serving) room c.commit.ensures.rest c.in-Err.ensures.falls)

pub returns-in-Ok-commit-clause-sound : goal.returns-in-Ok-commit-clause-sound
returns-in-Ok-commit-clause-sound g c =
    let room : Roomed c.args.parts.now c.make_room.new.self = record {
      state = c.make_room.ensures.state;
      me = c.make_room.ensures.me;
      members = c.make_room.ensures.members;
      rest = c.make_room.ensures.rest;
    } in
    let serving = c.requires.sound.serves c.requires.serving in
    let base = base_log (unboxed c.args.made) c.args.outcome.change.snapshot c.args.parts.now.log in
    let is_ready : Ready g.K.Keeper.holds g.K.Keeper.is_failed base c.args.outcome c.args.parts.now c.go_from.new.self =
    based g.K.Keeper.holds g.K.Keeper.is_failed base c.args.outcome c.args.parts.now c.commit.new.self c.go_from.new.self
    (ready g.K.Keeper.holds g.K.Keeper.is_failed c.args.outcome c.args.parts.now c.make_room.new.self c.commit.new.self room
    c.commit.ensures.rest serving.held
    serving.whole c.in-Ok-commit.ensures.ok c.in-Ok-commit.ensures.whole) c.go_from.ensures.rest
    (c.go_from.ensures.log
    ∙ ap (λ log. base_log (unboxed c.args.made) c.args.outcome.change.snapshot log) (c.commit.ensures.rest.log ∙ c.make_room.ensures.rest.log)) in
    sound_on g.M.Machine.steps g.M.Machine.content g.K.Keeper.holds g.K.Keeper.finds
    g.K.Keeper.failures g.K.Keeper.is_failed
    g.M.Body.Body.same base c.args.outcome c.args.parts.now c.go_from.new.self c.take_over.new.self c.args.seat.now c.requires.sound serving
    is_ready c.requires.base
    c.take_over.ensures.who c.take_over.result c.take_over.ensures.follows

pub returns-in-Ok-commit-clause-seated : goal.returns-in-Ok-commit-clause-seated
returns-in-Ok-commit-clause-seated g c =
    let room : Roomed c.args.parts.now c.make_room.new.self = record {
      state = c.make_room.ensures.state;
      me = c.make_room.ensures.me;
      members = c.make_room.ensures.members;
      rest = c.make_room.ensures.rest;
    } in
    let serving = c.requires.sound.serves c.requires.serving in
    let base = base_log (unboxed c.args.made) c.args.outcome.change.snapshot c.args.parts.now.log in
    let is_ready : Ready g.K.Keeper.holds g.K.Keeper.is_failed base c.args.outcome c.args.parts.now c.go_from.new.self =
    based g.K.Keeper.holds g.K.Keeper.is_failed base c.args.outcome c.args.parts.now c.commit.new.self c.go_from.new.self
    (ready g.K.Keeper.holds g.K.Keeper.is_failed c.args.outcome c.args.parts.now c.make_room.new.self c.commit.new.self room
    c.commit.ensures.rest serving.held
    serving.whole c.in-Ok-commit.ensures.ok c.in-Ok-commit.ensures.whole) c.go_from.ensures.rest
    (c.go_from.ensures.log
    ∙ ap (λ log. base_log (unboxed c.args.made) c.args.outcome.change.snapshot log) (c.commit.ensures.rest.log ∙ c.make_room.ensures.rest.log)) in
    seated_on g.M.Body.Body.same g.M.Machine.steps g.M.Machine.content g.K.Keeper.holds
    g.K.Keeper.is_failed
    base c.args.outcome c.args.parts.now c.go_from.new.self c.take_over.new.self c.args.seat.now c.step.new.seat c.step.ensures.advanced
    c.requires.sound is_ready
    serving.committed serving.up c.take_over.ensures.who c.take_over.result c.take_over.ensures.follows c.requires.seated

pub returns-in-Ok-commit-clause-did : goal.returns-in-Ok-commit-clause-did
returns-in-Ok-commit-clause-did g c =
    let room : Roomed c.args.parts.now c.make_room.new.self = record {
      state = c.make_room.ensures.state;
      me = c.make_room.ensures.me;
      members = c.make_room.ensures.members;
      rest = c.make_room.ensures.rest;
    } in
    let serving = c.requires.sound.serves c.requires.serving in
    let base = base_log (unboxed c.args.made) c.args.outcome.change.snapshot c.args.parts.now.log in
    let is_ready : Ready g.K.Keeper.holds g.K.Keeper.is_failed base c.args.outcome c.args.parts.now c.go_from.new.self =
    based g.K.Keeper.holds g.K.Keeper.is_failed base c.args.outcome c.args.parts.now c.commit.new.self c.go_from.new.self
    (ready g.K.Keeper.holds g.K.Keeper.is_failed c.args.outcome c.args.parts.now c.make_room.new.self c.commit.new.self room
    c.commit.ensures.rest serving.held
    serving.whole c.in-Ok-commit.ensures.ok c.in-Ok-commit.ensures.whole) c.go_from.ensures.rest
    (c.go_from.ensures.log
    ∙ ap (λ log. base_log (unboxed c.args.made) c.args.outcome.change.snapshot log) (c.commit.ensures.rest.log ∙ c.make_room.ensures.rest.log)) in
    let may : may_advance c.args.seat.now ≡ true = search rules in
    carried_on g.M.Machine.steps g.M.Machine.content g.K.Keeper.holds g.K.Keeper.finds
    g.K.Keeper.failures g.K.Keeper.is_failed
    g.M.Body.Body.same base c.args.outcome c.args.parts.now c.go_from.new.self c.take_over.new.self c.args.seat.now c.step.new.seat
    c.step.ensures.advanced may
    c.requires.sound serving is_ready c.requires.serving c.take_over.result c.take_over.ensures.follows

-- how often the store failed

pub returns-then-not-may_advance-clause-counts : goal.returns-then-not-may_advance-clause-counts
returns-then-not-may_advance-clause-counts g c = rw c.spoil.ensures (omega arith)

pub returns-in_default-clause-counts : goal.returns-in_default-clause-counts
returns-in_default-clause-counts g c = rw (c.spoil-in_default.ensures, c.make_room.ensures.rest.keeper) (omega arith)

pub returns-in-Err-clause-counts : goal.returns-in-Err-clause-counts
returns-in-Err-clause-counts g c =
    rw c.spoil_at.ensures (subst (λ k. g.K.Keeper.failures k ≤ g.K.Keeper.failures c.commit.new.self.keeper) c.make_room.ensures.rest.keeper
    c.commit.ensures.counts)

pub returns-in-Ok-commit-clause-counts : goal.returns-in-Ok-commit-clause-counts
returns-in-Ok-commit-clause-counts g c =
    let same = c.take_over.ensures.keeper ∙ c.go_from.ensures.rest.keeper in
    subst (λ k. g.K.Keeper.failures c.args.parts.now.keeper ≤ g.K.Keeper.failures k) (sym same)
    (subst (λ k. g.K.Keeper.failures k ≤ g.K.Keeper.failures c.commit.new.self.keeper) c.make_room.ensures.rest.keeper c.commit.ensures.counts)
