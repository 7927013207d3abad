use Rattle.std.proofs.Common.{◌≡◌, true, false, Some, Err, ap, refl, rules, subst, sym, arith}
use Rattle.node_actor.specs.Actor.{acting}
use Rattle.node_actor.specs.Calls.{ActsWith}
use Rattle.node_actor.specs.MidRound.{SeatGoes}
use Rattle.paxos_node.specs.Adopting.{Planned}
use Rattle.paxos_node.specs.Events.{outcome_of, is_round_refused, is_full_refused}
use Rattle.paxos_node.specs.declared.fault.NodeFault.TheVariants as node_fault
use Rattle.node_actor.proofs.Seating.{seated_spoiled}
use Rattle.node_actor.proofs.Viewing.{acts_on, disagree_acts, memory_acts, follows_plan, shorts, told_disagree, told_memory, seat_on, unmoved, reaches_here}
use Rattle.node_actor.proofs.Bringing.{from_packet}
use Rattle.node_actor.proofs.event.make_event.Goals as goal

pub carry_on-requires-clause-plan : goal.carry_on-requires-clause-plan
carry_on-requires-clause-plan g c =
    let fresh : c.args.parts.now.spoiled ≡ false = search rules in
    record { event = c.args.event.now; plans = c.requires.own fresh; planned = c.in-Ok.ensures.planned.3 }

pub carry_on-requires-clause-follows : goal.carry_on-requires-clause-follows
carry_on-requires-clause-follows g c =
    let fresh : c.args.parts.now.spoiled ≡ false = search rules in
    follows_plan g.M.Body.Body.same c.args.event.now c.in-Ok.outcome c.args.parts.now c.args.seat.now (c.requires.own fresh)
    c.in-Ok.ensures.planned.3
    c.requires.seated (c.requires.sound.serves fresh).up c.requires.received

pub returns-in-Ok-clause-acts : goal.returns-in-Ok-clause-acts
returns-in-Ok-clause-acts g c = λ got view reach.
    let fresh : c.args.parts.now.spoiled ≡ false = search rules in
    let p = c.in-Ok.ensures.planned in
    let serving = c.requires.sound.serves fresh in
    acts_on _ _ _ _ _ _ _ _ c.args.event.now c.in-Ok.outcome c.args.parts.now c.carry_on.new.parts view c.args.seat.now c.carry_on.new.seat
    c.requires.sound
    c.requires.seated serving.up c.carry_on.ensures.seated reach (c.requires.own fresh) p.3 p.0 p.1 serving
    (from_packet g.M.Body.Body.same c.args.parts.now.node.me c.args.parts.now.node.members c.args.event.now c.args.parts.now.node.state
    c.in-Ok.outcome serving.up (c.requires.own fresh) c.requires.other p.3) fresh
    (shorts _ _ _ c.args.parts.now c.requires.sound c.limits.ensures) c.carry_on.result c.carry_on.ensures.did

pub returns-in-Err-Disagree-clause-seated : goal.returns-in-Err-Disagree-clause-seated
returns-in-Err-Disagree-clause-seated g c =
    rw c.spoil.ensures (seated_spoiled g.M.Body.Body.same c.args.parts.now c.args.seat.now c.requires.seated)

pub returns-in-Err-Disagree-clause-acts : goal.returns-in-Err-Disagree-clause-acts
returns-in-Err-Disagree-clause-acts g c = λ got view reach.
    let fresh : c.args.parts.now.spoiled ≡ false = search rules in
    let fault : c.in-Err-Disagree.field-0 ≡ node_fault.Disagree = search rules in
    let refused = told_disagree (is_round_refused c.args.event.now c.args.parts.now.node.state)
    (is_full_refused g.M.Body.Body.same c.args.event.now c.args.parts.now.node.state)
    (outcome_of g.M.Body.Body.same c.args.parts.now.node.members c.args.event.now c.args.parts.now.node.state).disagrees
    (λ outcome. Planned g.M.Body.Body.same c.args.parts.now.node.members c.args.event.now c.args.parts.now.node.state outcome)
    c.in-Err-Disagree.field-0 fault c.in-Err-Disagree.ensures.planned in
    rw c.spoil.ensures (disagree_acts g.M.Body.Body.same _ _ _ _ _ _ g.K.Keeper.is_failed c.args.event.now c.args.parts.now view
    c.args.seat.now c.requires.seated (c.requires.sound.serves fresh).up reach fresh
    (c.requires.sound.serves fresh) (seated_spoiled g.M.Body.Body.same c.args.parts.now c.args.seat.now c.requires.seated) refused)

pub returns-in-Err-Memory-clause-seated : goal.returns-in-Err-Memory-clause-seated
returns-in-Err-Memory-clause-seated g c =
    rw c.stop.ensures.spoiled (seated_spoiled g.M.Body.Body.same c.args.parts.now c.args.seat.now c.requires.seated)

pub returns-in-Err-Memory-clause-acts : goal.returns-in-Err-Memory-clause-acts
returns-in-Err-Memory-clause-acts g c = λ got view reach.
    let fresh : c.args.parts.now.spoiled ≡ false = search rules in
    let fault : c.in-Err-Memory.field-0 ≡ node_fault.Memory = search rules in
    let refused = told_memory (is_round_refused c.args.event.now c.args.parts.now.node.state)
    (is_full_refused g.M.Body.Body.same c.args.event.now c.args.parts.now.node.state)
    (outcome_of g.M.Body.Body.same c.args.parts.now.node.members c.args.event.now c.args.parts.now.node.state).disagrees
    (λ outcome. Planned g.M.Body.Body.same c.args.parts.now.node.members c.args.event.now c.args.parts.now.node.state outcome)
    c.in-Err-Memory.field-0 fault c.in-Err-Memory.ensures.planned in
    let agrees = c.in-Err-Memory.ensures.memory (ap Err fault) in
    let told = memory_acts g.M.Body.Body.same g.M.Machine.steps g.M.Machine.content g.M.Machine.loaded g.K.Keeper.holds
    g.K.Keeper.finds g.K.Keeper.failures g.K.Keeper.is_failed c.args.event.now c.args.parts.now view c.args.seat.now c.requires.seated
    (c.requires.sound.serves fresh).up reach fresh (c.requires.sound.serves fresh) (seated_spoiled g.M.Body.Body.same c.args.parts.now c.args.seat.now c.requires.seated) refused
    agrees in
    subst (λ p. ActsWith g.M.Body.Body.same g.M.Machine.steps g.M.Machine.content g.M.Machine.loaded
    g.K.Keeper.holds g.K.Keeper.finds g.K.Keeper.failures got (Some c.args.event.now) (acting c.args.parts.now view)
    (acting p c.args.seat.now) view (Err c.stop.result)) (sym c.stop.ensures.spoiled)
    (subst (λ f. ActsWith g.M.Body.Body.same g.M.Machine.steps g.M.Machine.content g.M.Machine.loaded
    g.K.Keeper.holds g.K.Keeper.finds g.K.Keeper.failures got (Some c.args.event.now) (acting c.args.parts.now view)
    (acting (record c.args.parts.now { spoiled = true }) c.args.seat.now) view (Err f)) (sym c.stop.ensures.fault) told)

-- the seat, and how often the store failed

pub returns-in-Ok-clause-seat : goal.returns-in-Ok-clause-seat
returns-in-Ok-clause-seat g c = λ fresh.
    seat_on _ _ _ _ _ _ _ _ c.args.event.now c.in-Ok.outcome c.args.parts.now c.carry_on.new.parts c.args.seat.now c.args.seat.now
    c.carry_on.new.seat c.requires.sound c.requires.seated (c.requires.sound.serves fresh).up c.carry_on.ensures.seated
    (reaches_here c.args.parts.now.spoiled (Some c.args.event.now) c.args.seat.now) (c.requires.own fresh) c.in-Ok.ensures.planned.3
    c.carry_on.result c.carry_on.ensures.did

pub returns-in-Err-Memory-clause-seat : goal.returns-in-Err-Memory-clause-seat
returns-in-Err-Memory-clause-seat g c = λ fresh.
    subst (λ f. SeatGoes g.M.Body.Body.same c.args.parts.now.node.members c.args.event.now c.args.seat.now c.args.seat.now (Err f))
    (sym c.stop.ensures.fault)
    (unmoved _ g.M.Body.Body.same c.args.parts.now.node.members c.args.event.now c.args.seat.now c.args.seat.now refl)

pub returns-then-is_spoiled-clause-counts : goal.returns-then-is_spoiled-clause-counts
returns-then-is_spoiled-clause-counts g c = omega arith

pub returns-in-Err-Rounds-clause-counts : goal.returns-in-Err-Rounds-clause-counts
returns-in-Err-Rounds-clause-counts g c = omega arith

pub returns-in-Err-Full-clause-counts : goal.returns-in-Err-Full-clause-counts
returns-in-Err-Full-clause-counts g c = omega arith

pub returns-in-Err-Disagree-clause-counts : goal.returns-in-Err-Disagree-clause-counts
returns-in-Err-Disagree-clause-counts g c = rw c.spoil.ensures (omega arith)

pub returns-in-Err-Memory-clause-counts : goal.returns-in-Err-Memory-clause-counts
returns-in-Err-Memory-clause-counts g c = rw c.stop.ensures.spoiled (omega arith)
