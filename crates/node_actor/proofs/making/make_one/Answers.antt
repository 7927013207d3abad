use Rattle.std.proofs.Common.{◌≡◌, rules}
use Rattle.node_actor.proofs.TryingNext.{next_alone, next_ends, next_fails, next_full, next_tried, stays_more, tries_none, who_tried}
use Rattle.actor_parts.specs.declared.fault.ActorFault.TheVariants as fault
use Rattle.actor_parts.proofs.Carrying.{who_on}
use Rattle.node_actor.proofs.making.make_one.Goals as goal

-- it is tried
pub returns-in-Ok-clause-makes : goal.returns-in-Ok-clause-makes
returns-in-Ok-clause-makes g c =
    λ own rest old view start all looks fresh up heads next.
    next_tried g.M.Body.Body.same g.M.Machine.steps g.M.Machine.content g.M.Machine.loaded g.K.Keeper.holds g.K.Keeper.finds g.K.Keeper.failures
    g.K.Keeper.is_failed old view start all looks c.args.parts.now c.args.seat.now c.args.staged.now c.args.says.now.items heads c.args.event own rest
    c.try_one.new.parts c.try_one.new.staged c.try_one.ensures.me c.try_one.ensures.members c.try_one.ensures.rest c.requires.trying
    c.in-Ok.ensures.ok

-- all that were tried are made, and a fault ends the round there
pub returns-in-Err-flush-clause-makes : goal.returns-in-Err-flush-clause-makes
returns-in-Err-flush-clause-makes g c =
    λ own rest old view start all looks fresh up heads next.
    next_fails g.M.Body.Body.same g.M.Machine.steps g.M.Machine.content g.M.Machine.loaded g.K.Keeper.holds g.K.Keeper.finds g.K.Keeper.failures
    g.K.Keeper.is_failed old view start all looks c.args.parts.now c.args.seat.now c.args.staged.now c.args.says.now.items heads c.args.event own rest
    c.try_one.new.parts c.try_one.new.staged c.try_one.ensures.me c.try_one.ensures.members c.try_one.ensures.rest c.in-Err.ensures.err.1
    c.flush.new.parts c.flush.new.seat c.flush.new.says.items fresh next.due c.in-Err-flush.fault c.in-Err-flush.ensures.makes

-- and it is carried out alone

pub returns-in_default-make_alone-clause-trying : goal.returns-in_default-make_alone-clause-trying
returns-in_default-make_alone-clause-trying g c =
    tries_none g.M.Body.Body.same g.K.Keeper.holds g.K.Keeper.is_failed c.make_alone.new.parts c.make_alone.new.seat c.nothing_tried.result
    c.make_alone.ensures.sound c.make_alone.ensures.seated c.in_default-make_alone.ensures.makes.0 c.nothing_tried.ensures.tried
    c.nothing_tried.ensures.ahead

pub returns-in_default-make_alone-clause-makes : goal.returns-in_default-make_alone-clause-makes
returns-in_default-make_alone-clause-makes g c =
    λ own rest old view start all looks fresh up heads next.
    next_alone g.M.Body.Body.same g.M.Machine.steps g.M.Machine.content g.M.Machine.loaded g.K.Keeper.holds g.K.Keeper.finds g.K.Keeper.failures
    g.K.Keeper.is_failed old view start all looks c.args.parts.now c.args.seat.now c.args.staged.now c.args.says.now.items heads c.args.event own rest
    c.try_one.new.parts c.try_one.new.staged c.try_one.ensures.me c.try_one.ensures.members c.try_one.ensures.rest c.in-Err.ensures.err.1
    c.flush.new.parts c.flush.new.seat c.flush.new.says.items tt c.in_default.ensures.makes
    c.in-Err.event c.in-Err.ensures.err.0 c.make_alone.new.parts c.make_alone.new.seat c.make_alone.new.says.items c.make_alone.ensures.who
    c.make_alone.ensures.stays c.make_alone.ensures.counts next c.nothing_tried.result c.nothing_tried.ensures.tried
    c.make_alone.ensures.seated (c.make_alone.ensures.sound.serves c.in_default-make_alone.ensures.makes.0).up tt
    c.in_default-make_alone.ensures.makes

-- there is no room for it
pub returns-in-Full-clause-makes : goal.returns-in-Full-clause-makes
returns-in-Full-clause-makes g c =
    λ own rest old view start all looks fresh up heads next.
    let full : c.in-Err-make_alone.fault ≡ fault.Full = search rules in
    next_full g.M.Body.Body.same g.M.Machine.steps g.M.Machine.content g.M.Machine.loaded g.K.Keeper.holds g.K.Keeper.finds g.K.Keeper.failures
    g.K.Keeper.is_failed old view start all looks c.args.parts.now c.args.seat.now c.args.staged.now c.args.says.now.items heads c.args.event own rest
    c.try_one.new.parts c.try_one.new.staged c.try_one.ensures.me c.try_one.ensures.members c.try_one.ensures.rest c.in-Err.ensures.err.1
    c.flush.new.parts c.flush.new.seat c.flush.new.says.items tt c.in_default.ensures.makes
    c.in-Err.event c.in-Err.ensures.err.0 c.make_alone.new.parts c.make_alone.new.seat c.make_alone.new.says.items c.make_alone.ensures.who
    c.make_alone.ensures.stays c.make_alone.ensures.counts next c.flush.new.staged c.in_default.ensures.none c.make_alone.ensures.seated
    c.make_alone.ensures.sound c.in_default.ensures.trying.fresh c.in-Err-make_alone.fault full c.in-Err-make_alone.ensures.makes

-- a fault has ended the round
pub returns : goal.returns
returns g c =
    let other : c.in-Err-make_alone.fault ≡ fault.Full → ⊥ = search rules in
    record {
      owned = c.make_alone.ensures.owned;
      trying = tt;
      sound = c.make_alone.ensures.sound;
      seated = c.make_alone.ensures.seated;
      stays = stays_more c.args.seat.now c.flush.new.seat c.make_alone.new.seat c.flush.ensures.stays c.make_alone.ensures.stays;
      who = who_on c.args.parts.now c.flush.new.parts c.make_alone.new.parts
          (who_on c.args.parts.now c.try_one.new.parts c.flush.new.parts
          (who_tried c.args.parts.now c.try_one.new.parts c.try_one.ensures.me c.try_one.ensures.members c.try_one.ensures.rest) c.flush.ensures.who)
          c.make_alone.ensures.who;
      makes = λ own rest old view start all looks fresh up heads next.
          next_ends g.M.Body.Body.same g.M.Machine.steps g.M.Machine.content g.M.Machine.loaded g.K.Keeper.holds g.K.Keeper.finds g.K.Keeper.failures
          g.K.Keeper.is_failed old view start all looks c.args.parts.now c.args.seat.now c.args.staged.now c.args.says.now.items heads c.args.event
          own rest
          c.try_one.new.parts c.try_one.new.staged c.try_one.ensures.me c.try_one.ensures.members c.try_one.ensures.rest c.in-Err.ensures.err.1
          c.flush.new.parts c.flush.new.seat c.flush.new.says.items tt c.in_default.ensures.makes
          c.in-Err.event c.in-Err.ensures.err.0 c.make_alone.new.parts c.make_alone.new.seat c.make_alone.new.says.items c.make_alone.ensures.who
          c.make_alone.ensures.stays c.make_alone.ensures.counts next fresh up c.in-Err-make_alone.fault other c.in-Err-make_alone.ensures.makes;
    }
