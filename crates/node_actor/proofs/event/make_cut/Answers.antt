-- What comes of a cut, whether it is possible or not.
use Rattle.std.proofs.Common.{◌≡◌, ◌<◌, ◌^◌, true, false, Some, None, Err, length, ap, refl, sym, subst, ◌∙◌, rules}
use Rattle.std.specs.Prelude.{IfSome, Option, is_some, nat_lt}
use Rattle.std.proofs.lemmas.Bool.{false≢true, lt-ltb}
use Rattle.replica_machine.specs.Log.{length_in}
use Rattle.actor_parts.proofs.Basing.{log_is_long}
use Rattle.paxos_node.specs.Adopting.{Planned}
use Rattle.paxos_node.specs.Snapshots.{may_cut}
use Rattle.paxos_node.specs.declared.event.Event.TheVariants.{Cut}
use Rattle.paxos_node.specs.declared.outcome.Outcome.{Outcome}
use Rattle.cluster_world.specs.MemberSnapshots.{own_cut}
use Rattle.actor_parts.specs.Snapshots.{base_log}
use Rattle.node_actor.specs.Actor.{acting}
use Rattle.node_actor.specs.Calls.{Acts}
use Rattle.actor_parts.proofs.Carrying.{spoiled_sound}
use Rattle.node_actor.proofs.Cutting.{on_ok_still, cuts_none, cut_agrees, cut_plans, reaches_none, cuts_idle, base_own, joins_cut}
use Rattle.node_actor.proofs.Seating.{seated_spoiled}
use Rattle.node_actor.proofs.Viewing.{acts_of, cuts_acts, failed_acts, follows_plan, memory_acts, shorts}
use Rattle.node_actor.proofs.event.make_cut.Goals as goal

-- a fault has ended the actor before

pub returns-then-is_spoiled-clause-cuts : goal.returns-then-is_spoiled-clause-cuts
returns-then-is_spoiled-clause-cuts g c = λ view reach.
    let ended : c.args.parts.now.spoiled ≡ true = search rules in
    failed_acts g.M.Body.Body.same g.M.Machine.steps g.M.Machine.content g.M.Machine.loaded g.K.Keeper.holds g.K.Keeper.finds
    g.K.Keeper.failures g.K.Keeper.is_failed
    (Some (Cut c.args.parts.now.node.me (own_cut g.M.Machine.saved g.M.Machine.content c.args.parts.now.log))) c.args.parts.now view
    c.args.seat.now ended reach

-- nothing is applied above the floor

pub returns-then-not-has_applied-clause-cuts : goal.returns-then-not-has_applied-clause-cuts
returns-then-not-has_applied-clause-cuts g c = λ view reach.
    let fresh : c.args.parts.now.spoiled ≡ false = search rules in
    let none : nat_lt 0 (length c.args.parts.now.log.applied) ≡ false = search rules in
    let serving = c.requires.sound.serves fresh in
    let is_node : c.args.parts.now.node.state ≡ view.part.seen.node =
    sym (c.requires.seated.node (c.requires.sound.serves fresh).up) ∙ ap (λ x. x.node) reach.seen in
    let never : may_cut (own_cut g.M.Machine.saved g.M.Machine.content c.args.parts.now.log) view.part.seen.node ≡ false =
    cuts_none _ view.part.seen.node
    (ap (λ es. nat_lt 0 (length es)) (sym (serving.followed ∙ ap (λ x. x.applied) is_node)) ∙ none) in
    cuts_idle _ _ _ _ _ _ _ _ (acting c.args.parts.now view) (acting c.args.parts.now c.args.seat.now) view c.pass.result never fresh
    (sym c.pass.ensures.rests.spoiled) (c.pass.ensures.acts view (reaches_none c.args.parts.now.spoiled _ _ view c.args.seat.now reach))

-- there was no memory for the plan, or the machine has failed

pub returns-in_default-clause-sound : goal.returns-in_default-clause-sound
returns-in_default-clause-sound g c =
    let fresh : c.args.parts.now.spoiled ≡ false = search rules in
    rw c.stop.ensures.spoiled (spoiled_sound _ _ _ c.args.parts.now c.requires.sound fresh)

pub returns-in_default-clause-seated : goal.returns-in_default-clause-seated
returns-in_default-clause-seated g c =
    rw c.stop.ensures.spoiled (seated_spoiled g.M.Body.Body.same c.args.parts.now c.args.seat.now c.requires.seated)

pub returns-in_default-clause-cuts : goal.returns-in_default-clause-cuts
returns-in_default-clause-cuts g c = λ view reach.
    let fresh : c.args.parts.now.spoiled ≡ false = search rules in
    let e = Cut c.args.parts.now.node.me (own_cut g.M.Machine.saved g.M.Machine.content c.args.parts.now.log) in
    let told = memory_acts g.M.Body.Body.same g.M.Machine.steps g.M.Machine.content g.M.Machine.loaded g.K.Keeper.holds
    g.K.Keeper.finds g.K.Keeper.failures g.K.Keeper.is_failed e c.args.parts.now view c.args.seat.now c.requires.seated
    (c.requires.sound.serves fresh).up reach fresh (c.requires.sound.serves fresh) (seated_spoiled g.M.Body.Body.same c.args.parts.now c.args.seat.now c.requires.seated) (refl, refl)
    (cut_agrees g.M.Body.Body.same c.args.parts.now.node.members c.args.parts.now.node.me _ c.args.parts.now.node.state) in
    subst (λ p. Acts g.M.Body.Body.same g.M.Machine.steps g.M.Machine.content g.M.Machine.loaded
    g.K.Keeper.holds g.K.Keeper.finds g.K.Keeper.failures (Some e) (acting c.args.parts.now view)
    (acting p c.args.seat.now) view (Err c.stop.result)) (sym c.stop.ensures.spoiled)
    (subst (λ f. Acts g.M.Body.Body.same g.M.Machine.steps g.M.Machine.content g.M.Machine.loaded
    g.K.Keeper.holds g.K.Keeper.finds g.K.Keeper.failures (Some e) (acting c.args.parts.now view)
    (acting (record c.args.parts.now { spoiled = true }) c.args.seat.now) view (Err f)) (sym c.stop.ensures.fault) told)

pub returns-in_default-clause-rests : goal.returns-in_default-clause-rests
returns-in_default-clause-rests g c = λ none.
    let fresh : c.args.parts.now.spoiled ≡ false = search rules in
    let some : nat_lt 0 (length c.args.parts.now.log.applied) ≡ true = search rules in
    absurd (false≢true (ap (λ es. nat_lt 0 (length es)) (sym ((c.requires.sound.serves fresh).followed ∙ none)) ∙ some))

-- what is saved is no snapshot of the node's log

pub returns-in-None-clause-cuts : goal.returns-in-None-clause-cuts
returns-in-None-clause-cuts g c = λ view reach.
    let fresh : c.args.parts.now.spoiled ≡ false = search rules in
    let is_node : c.args.parts.now.node.state ≡ view.part.seen.node =
    sym (c.requires.seated.node (c.requires.sound.serves fresh).up) ∙ ap (λ x. x.node) reach.seen in
    let cut = own_cut g.M.Machine.saved g.M.Machine.content c.args.parts.now.log in
    let here : may_cut cut c.args.parts.now.node.state ≡ false = sym c.in-Ok.ensures.exactly ∙ ap is_some c.in-None.is in
    cuts_idle _ _ _ _ _ _ _ _ (acting c.args.parts.now view) (acting c.args.parts.now c.args.seat.now) view c.pass-in-None.result
    (ap (may_cut cut) (sym is_node) ∙ here) fresh (sym c.pass-in-None.ensures.rests.spoiled)
    (c.pass-in-None.ensures.acts view (reaches_none c.args.parts.now.spoiled _ _ view c.args.seat.now reach))

pub returns-in-None-clause-rests : goal.returns-in-None-clause-rests
returns-in-None-clause-rests g c = λ none. c.pass-in-None.ensures.rests

-- the node rests on it

pub carry_out-requires-clause-plan : goal.carry_out-requires-clause-plan
carry_out-requires-clause-plan g c =
    let fresh : c.args.parts.now.spoiled ≡ false = search rules in
    let planned = subst (λ (plan : Option (Outcome g.row.M-Body.Denot)). IfSome plan (λ outcome. Planned g.M.Body.Body.same
    c.args.parts.now.node.members (Cut c.args.parts.now.node.me (own_cut g.M.Machine.saved g.M.Machine.content c.args.parts.now.log))
    c.args.parts.now.node.state outcome)) c.in-Some.is c.in-Ok.ensures.planned in
    record {
      event = Cut c.args.parts.now.node.me (own_cut g.M.Machine.saved g.M.Machine.content c.args.parts.now.log);
      plans = cut_plans c.args.parts.now.node.me _ c.args.parts.now.node.state (c.requires.sound.serves fresh).up
          (sym c.in-Ok.ensures.exactly ∙ ap is_some c.in-Some.is);
      planned = planned;
    }

pub carry_out-requires-clause-follows : goal.carry_out-requires-clause-follows
carry_out-requires-clause-follows g c =
    let fresh : c.args.parts.now.spoiled ≡ false = search rules in
    let planned = subst (λ (plan : Option (Outcome g.row.M-Body.Denot)). IfSome plan (λ outcome. Planned g.M.Body.Body.same
    c.args.parts.now.node.members (Cut c.args.parts.now.node.me (own_cut g.M.Machine.saved g.M.Machine.content c.args.parts.now.log))
    c.args.parts.now.node.state outcome)) c.in-Some.is c.in-Ok.ensures.planned in
    follows_plan g.M.Body.Body.same
    (Cut c.args.parts.now.node.me (own_cut g.M.Machine.saved g.M.Machine.content c.args.parts.now.log)) c.in-Some.outcome c.args.parts.now
    c.args.seat.now
    (cut_plans c.args.parts.now.node.me _ c.args.parts.now.node.state (c.requires.sound.serves fresh).up (sym c.in-Ok.ensures.exactly ∙ ap is_some c.in-Some.is))
    planned c.requires.seated (c.requires.sound.serves fresh).up tt

pub carry_out-requires-clause-base : goal.carry_out-requires-clause-base
carry_out-requires-clause-base g c =
    let fresh : c.args.parts.now.spoiled ≡ false = search rules in
    let rests = subst (λ (plan : Option (Outcome g.row.M-Body.Denot)). IfSome plan (λ outcome. outcome.change.snapshot
    ≡ own_cut g.M.Machine.saved g.M.Machine.content c.args.parts.now.log)) c.in-Some.is c.in-Ok.ensures.rests in
    base_own g.M.Machine.steps g.M.Machine.content g.M.Machine.loaded g.K.Keeper.holds g.K.Keeper.is_failed c.args.parts.now
    c.in-Some.outcome (c.requires.sound.serves fresh) c.fits_slots.ensures _ rests (sym c.in-Ok.ensures.exactly ∙ ap is_some c.in-Some.is)

pub returns-in-Some-clause-cuts : goal.returns-in-Some-clause-cuts
returns-in-Some-clause-cuts g c = λ view reach.
    let fresh : c.args.parts.now.spoiled ≡ false = search rules in
    let planned = subst (λ (plan : Option (Outcome g.row.M-Body.Denot)). IfSome plan (λ outcome. Planned g.M.Body.Body.same
    c.args.parts.now.node.members (Cut c.args.parts.now.node.me (own_cut g.M.Machine.saved g.M.Machine.content c.args.parts.now.log))
    c.args.parts.now.node.state outcome)) c.in-Some.is c.in-Ok.ensures.planned in
    let rests = subst (λ (plan : Option (Outcome g.row.M-Body.Denot)). IfSome plan (λ outcome. outcome.change.snapshot
    ≡ own_cut g.M.Machine.saved g.M.Machine.content c.args.parts.now.log)) c.in-Some.is c.in-Ok.ensures.rests in
    let serving = c.requires.sound.serves fresh in
    let is_node : c.args.parts.now.node.state ≡ view.part.seen.node =
    sym (c.requires.seated.node (c.requires.sound.serves fresh).up) ∙ ap (λ x. x.node) reach.seen in
    let cut = own_cut g.M.Machine.saved g.M.Machine.content c.args.parts.now.log in
    let o = c.in-Some.outcome in
    let may : may_cut cut c.args.parts.now.node.state ≡ true = sym c.in-Ok.ensures.exactly ∙ ap is_some c.in-Some.is in
    cuts_acts _ _ _ _ _ _ _ _ (acting c.args.parts.now view) (acting c.carry_out.new.parts c.carry_out.new.seat) view c.carry_out.result
    (ap (may_cut cut) (sym is_node) ∙ may)
    (acts_of _ _ _ _ _ _ _ _ (Cut c.args.parts.now.node.me cut) o c.args.parts.now c.carry_out.new.parts view c.args.seat.now
    c.carry_out.new.seat c.requires.sound c.requires.seated serving.up c.carry_out.ensures.seated reach
    (cut_plans c.args.parts.now.node.me cut c.args.parts.now.node.state serving.up may) planned refl refl
    (base_log None o.change.snapshot c.args.parts.now.log)
    (joins_cut g.M.Machine.steps g.M.Machine.content g.M.Machine.loaded g.K.Keeper.holds g.K.Keeper.is_failed c.args.parts.now o serving
    c.fits_slots.ensures cut rests may)
    refl fresh (shorts _ _ _ c.args.parts.now c.requires.sound c.limits.ensures) c.carry_out.result c.carry_out.ensures.did)

pub returns-in-Some-clause-rests : goal.returns-in-Some-clause-rests
returns-in-Some-clause-rests g c = λ none.
    let fresh : c.args.parts.now.spoiled ≡ false = search rules in
    let some : nat_lt 0 (length c.args.parts.now.log.applied) ≡ true = search rules in
    absurd (false≢true (ap (λ es. nat_lt 0 (length es)) (sym ((c.requires.sound.serves fresh).followed ∙ none)) ∙ some))

pub returns-in-None-clause-brings : goal.returns-in-None-clause-brings
returns-in-None-clause-brings g c = λ first under l given.
    let fresh : c.args.parts.now.spoiled ≡ false = search rules in
    let within : length_in c.args.parts.now.log < 2 ^ 40 =
    subst (λ n. n < 2 ^ 40) (sym (log_is_long g.K.Keeper.holds g.K.Keeper.is_failed c.args.parts.now (c.requires.sound.serves fresh)))
    c.fits_slots.ensures in
    on_ok_still c.pass-in-None.result _ (λ some. c.in-Ok.ensures.brings first under l given within)

pub returns-in-None-clause-loads : goal.returns-in-None-clause-loads
returns-in-None-clause-loads g c = λ first under l sound given.
    let fresh : c.args.parts.now.spoiled ≡ false = search rules in
    let within : length_in c.args.parts.now.log < 2 ^ 40 =
    subst (λ n. n < 2 ^ 40) (sym (log_is_long g.K.Keeper.holds g.K.Keeper.is_failed c.args.parts.now (c.requires.sound.serves fresh)))
    c.fits_slots.ensures in
    on_ok_still c.pass-in-None.result _ (λ some. c.in-Ok.ensures.loads first under l sound given within)

pub returns-in-Some-clause-brings : goal.returns-in-Some-clause-brings
returns-in-Some-clause-brings g c = λ first under l given.
    let fresh : c.args.parts.now.spoiled ≡ false = search rules in
    let within : length_in c.args.parts.now.log < 2 ^ 40 =
    subst (λ n. n < 2 ^ 40) (sym (log_is_long g.K.Keeper.holds g.K.Keeper.is_failed c.args.parts.now (c.requires.sound.serves fresh)))
    c.fits_slots.ensures in
    on_ok_still c.carry_out.result _ (λ some. c.in-Ok.ensures.brings first under l given within)

pub returns-in-Some-clause-loads : goal.returns-in-Some-clause-loads
returns-in-Some-clause-loads g c = λ first under l sound given.
    let fresh : c.args.parts.now.spoiled ≡ false = search rules in
    let within : length_in c.args.parts.now.log < 2 ^ 40 =
    subst (λ n. n < 2 ^ 40) (sym (log_is_long g.K.Keeper.holds g.K.Keeper.is_failed c.args.parts.now (c.requires.sound.serves fresh)))
    c.fits_slots.ensures in
    on_ok_still c.carry_out.result _ (λ some. c.in-Ok.ensures.loads first under l sound given within)

pub returns-then-not-has_applied-clause-brings : goal.returns-then-not-has_applied-clause-brings
returns-then-not-has_applied-clause-brings g c = λ first under l given.
    let none : nat_lt 0 (length c.args.parts.now.log.applied) ≡ false = search rules in
    on_ok_still c.pass.result _ (λ some. absurd (false≢true (sym none ∙ lt-ltb 0 (length c.args.parts.now.log.applied) some)))

pub returns-then-not-has_applied-clause-loads : goal.returns-then-not-has_applied-clause-loads
returns-then-not-has_applied-clause-loads g c = λ first under l sound given.
    let none : nat_lt 0 (length c.args.parts.now.log.applied) ≡ false = search rules in
    on_ok_still c.pass.result _ (λ some. absurd (false≢true (sym none ∙ lt-ltb 0 (length c.args.parts.now.log.applied) some)))
