use Rattle.std.proofs.Common.{◌≡◌, ◌≤◌, ◌+◌, ◌^◌, ◌∙◌, [], length, ap, refl, subst, sym}
use Rattle.std.proofs.lemmas.List.{append-nil}
use Rattle.node_actor.specs.Posts.{advanced_all, AreSteps}
use Rattle.node_actor.proofs.Flushed.{OnlyTakes, Spoils, flush_fails, flush_makes, flush_none, flush_stops, none_left, some_left}
use Rattle.node_actor.proofs.Flushed.{steps_due, steps_stay, takes_who}
use Rattle.node_actor.proofs.Seating.{stays_there}
use Rattle.node_actor.proofs.flushing.flush.Goals as goal

-- none was tried
pub returns-then-is_empty : goal.returns-then-is_empty
returns-then-is_empty g c =
    let none = none_left c.args.staged.now.tried (sym c.if-is_empty.ensures) in
    let did = flush_none g.M.Body.Body.same g.K.Keeper.holds g.K.Keeper.is_failed c.args.parts.now c.args.seat.now c.args.staged.now
    c.requires.trying none g.M.Machine.steps g.M.Machine.content g.M.Machine.loaded g.K.Keeper.finds g.K.Keeper.failures c.limits.ensures in
    record {
      owned = c.requires.owned;
      sound = did.0;
      seated = did.1;
      trying = c.requires.trying;
      none = none;
      state = refl;
      stays = stays_there c.args.seat.now;
      who = record { me = refl; members = refl; waits_me = refl; waits_members = refl };
      makes = ([], sym (append-nil c.args.says.now.items), did.2);
    }

-- the commit failed
pub returns-in-Err : goal.returns-in-Err
returns-in-Err g c =
    let tr = c.requires.trying in
    let some = some_left c.args.staged.now.tried (sym c.if-is_empty.ensures) in
    let spoils : Spoils c.commit_all.new.self c.spoil_all.new.self c.replace-tried.result = record {
      failed = c.spoil_all.ensures.failed;
      spoiled = c.spoil_all.ensures.spoiled;
      state = c.spoil_all.ensures.state;
      me = c.spoil_all.ensures.me;
      members = c.spoil_all.ensures.members;
      keeper = c.spoil_all.ensures.keeper;
      waiting = c.spoil_all.ensures.waiting;
      log = c.spoil_all.ensures.log;
    } in
    let did = flush_fails g.M.Body.Body.same g.K.Keeper.holds g.K.Keeper.is_failed c.args.parts.now c.commit_all.new.self c.spoil_all.new.self
    c.args.seat.now c.args.staged.now c.replace-tried.result tr some c.commit_all.ensures.rest c.replace-tried.ensures.value spoils
    g.M.Machine.steps g.M.Machine.content g.M.Machine.loaded g.K.Keeper.finds g.K.Keeper.failures c.in-Err.fault
    (c.in-Err.ensures.falls c.args.seat.now.part.seen.node.rows tr.ahead (tr.sound.serves tr.fresh).held) in
    record {
      owned = c.requires.owned;
      sound = did.0;
      seated = did.1;
      trying = tt;
      none = tt;
      state = tt;
      stays = stays_there c.args.seat.now;
      who = did.2;
      makes = (spoils.spoiled, refl, did.3);
    }

-- their steps are taken

pub step_all-requires-clause-may : goal.step_all-requires-clause-may
step_all-requires-clause-may g c =
    subst (λ ts. AreSteps g.M.Body.Body.same c.args.seat.now.members ts c.args.seat.now.part) (sym c.tried.ensures)
    (steps_due g.M.Body.Body.same g.K.Keeper.holds g.K.Keeper.is_failed c.args.parts.now c.args.seat.now c.args.staged.now c.requires.trying)

pub step_all-requires-clause-counts : goal.step_all-requires-clause-counts
step_all-requires-clause-counts g c =
    let some = some_left c.args.staged.now.tried (sym c.if-is_empty.ensures) in
    subst (λ ts. c.args.seat.now.part.events + length ts ≤ 2 ^ 62) (sym c.tried.ensures) (c.requires.trying.counts some)

pub take_over_all-requires-clause-alive : goal.take_over_all-requires-clause-alive
take_over_all-requires-clause-alive g c =
    ap (λ l. l.failed) c.commit_all.ensures.rest.log ∙ (c.requires.trying.sound.serves c.requires.trying.fresh).alive

pub take_over_all-requires-clause-end : goal.take_over_all-requires-clause-end
take_over_all-requires-clause-end g c =
    ap (λ l. l.ahead) c.commit_all.ensures.rest.log ∙ (c.requires.trying.sound.serves c.requires.trying.fresh).ahead

-- memory ran out for what the machine was to say
pub returns-in_default-take_over_all : goal.returns-in_default-take_over_all
returns-in_default-take_over_all g c =
    let tr = c.requires.trying in
    let serves = tr.sound.serves tr.fresh in
    let only = c.commit_all.ensures.rest in
    let takes : OnlyTakes c.commit_all.new.self c.take_over_all.new.self = record {
      node = c.take_over_all.ensures.node;
      keeper = c.take_over_all.ensures.keeper;
      failed = c.take_over_all.ensures.failed;
      spoiled = c.take_over_all.ensures.spoiled;
      me = c.take_over_all.ensures.me;
      members = c.take_over_all.ensures.members;
    } in
    let held = c.in_default.ensures.ok c.args.seat.now.part.seen.node.rows tr.ahead serves.held in
    let steps : c.step_all.new.seat ≡ advanced_all g.M.Body.Body.same c.args.staged.now.tried c.args.seat.now =
    c.step_all.ensures.advanced ∙ ap (λ ts. advanced_all g.M.Body.Body.same ts c.args.seat.now) c.tried.ensures in
    let came = c.in_default-take_over_all.ensures.takes in
    let did = flush_stops g.M.Body.Body.same g.M.Machine.steps g.M.Machine.content g.M.Machine.loaded g.K.Keeper.holds g.K.Keeper.finds
    g.K.Keeper.failures g.K.Keeper.is_failed c.args.parts.now c.commit_all.new.self c.take_over_all.new.self c.args.seat.now c.step_all.new.seat
    c.args.staged.now tr only takes held steps c.replace-made.result c.replace-made.ensures.value came.0 came.2 in
    record {
      owned = c.step_all.ensures.owned;
      sound = rw c.spoil.ensures did.0;
      seated = rw c.spoil.ensures did.1;
      trying = tt;
      none = tt;
      state = tt;
      stays = steps_stay g.M.Body.Body.same c.args.staged.now.tried c.args.seat.now c.step_all.new.seat steps;
      who = rw c.spoil.ensures did.2;
      makes = rw c.spoil.ensures (refl, (came.0, came.1, did.3));
    }

-- all are made
pub returns : goal.returns
returns g c =
    let tr = c.requires.trying in
    let serves = tr.sound.serves tr.fresh in
    let only = c.commit_all.ensures.rest in
    let takes : OnlyTakes c.commit_all.new.self c.take_over_all.new.self = record {
      node = c.take_over_all.ensures.node;
      keeper = c.take_over_all.ensures.keeper;
      failed = c.take_over_all.ensures.failed;
      spoiled = c.take_over_all.ensures.spoiled;
      me = c.take_over_all.ensures.me;
      members = c.take_over_all.ensures.members;
    } in
    let held = c.in_default.ensures.ok c.args.seat.now.part.seen.node.rows tr.ahead serves.held in
    let steps : c.step_all.new.seat ≡ advanced_all g.M.Body.Body.same c.args.staged.now.tried c.args.seat.now =
    c.step_all.ensures.advanced ∙ ap (λ ts. advanced_all g.M.Body.Body.same ts c.args.seat.now) c.tried.ensures in
    let came = c.in-Ok.ensures.takes in
    let did = flush_makes g.M.Body.Body.same g.M.Machine.steps g.M.Machine.content g.M.Machine.loaded g.K.Keeper.holds g.K.Keeper.finds
    g.K.Keeper.failures g.K.Keeper.is_failed c.args.parts.now c.commit_all.new.self c.take_over_all.new.self c.args.seat.now c.step_all.new.seat
    c.args.staged.now tr only takes held steps c.replace-made.result c.replace-made.ensures.value came.0 came.2
    (c.in_default.ensures.whole serves.whole)
    c.commit_all.ensures.counts c.nothing_tried-2.result c.replace-made.new.dest c.replace-made.ensures.after c.nothing_tried-2.ensures.tried
    c.nothing_tried-2.ensures.ahead in
    record {
      owned = c.step_all.ensures.owned;
      sound = did.0;
      seated = did.1;
      trying = did.2;
      none = did.3;
      state = ap (λ h. h.state) (takes.node ∙ only.node);
      stays = steps_stay g.M.Body.Body.same c.args.staged.now.tried c.args.seat.now c.step_all.new.seat steps;
      who = takes_who c.args.parts.now c.commit_all.new.self c.take_over_all.new.self only takes;
      makes = (came.0, came.1, did.4);
    }
