use Rattle.std.proofs.Common.{rules, refl, sym, subst, le_trans}
use Rattle.rtrb.specs.Ring.{sent}
use Rattle.client_listener.specs.Inlet.{Inflow}
use Rattle.client_listener.proofs.Inflow.{pushed, same_end}
use Rattle.client_listener.proofs.inlet.Inlet.put.Goals as goal

pub items-preserved : goal.items-preserved
items-preserved c =
    let arm = c.in-Ok-true in
    let push = c.if-not-push.ensures in
    let room = c.items.invariant.room in
    record {
      inflow = λ read before u. rw arm.field-0-test at (arm.ensures.cuts read before _ push.none
          (pushed read before _ _ _ _ push.put push.none refl refl (subst (Inflow read before (sent c.items.producer)) (sym c.self-in-items.view_is)
          (c.items.invariant.inflow read before u))));
      room = (le_trans room.0 push.room.0, le_trans room.1 push.room.1);
      same = search rules;
    }

pub returns-in-Ok-false-clause-puts : goal.returns-in-Ok-false-clause-puts
returns-in-Ok-false-clause-puts c read before u =
    let arm = c.in-Ok-false in
    let push = c.if-not-push.ensures in
    rw arm.field-0-test at (arm.ensures.cuts read before _ push.none
    (pushed read before _ _ _ _ push.put push.none refl refl (subst (Inflow read before (sent c.items.producer)) (sym c.self-in-items.view_is)
    (c.items.invariant.inflow read before u))))

pub returns-in-Err-clause-puts : goal.returns-in-Err-clause-puts
returns-in-Err-clause-puts c read before u =
    let arm = c.in-Err in
    let push = c.if-not-push.ensures in
    same_end read before _ _ _ arm.fault (arm.ensures.cuts read before _ push.none
    (pushed read before _ _ _ _ push.put push.none refl refl (subst (Inflow read before (sent c.items.producer)) (sym c.self-in-items.view_is)
    (c.items.invariant.inflow read before u))))
