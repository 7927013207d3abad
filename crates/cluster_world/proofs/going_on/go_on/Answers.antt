-- The snapshot's octets are those that the machine is made of.
use Rattle.std.proofs.Common.{◌∙◌, sym, ap, subst, ◌++◌}
use Rattle.std.specs.Prelude.{OnOk}
use Rattle.std.proofs.lemmas.Result.{on_ok_weaker}
use Rattle.replica_machine.specs.Log.{machine_from}
use Rattle.replica_machine.specs.Snapshot.{kept_after}
use Rattle.replica_follower.specs.Following.{Follows, LoadsAs, handed_to}
use Rattle.replica_follower.specs.Handed.{said_in}
use Rattle.cluster_world.specs.MemberSnapshots.{base_of}
use Rattle.cluster_world.proofs.Attending.{log_kept}
use Rattle.cluster_world.proofs.MemberTakes.{on_ok, on_err, brought, above_snapshot, above_log, hands_snapshot, hands_log, gone, given_as_was, given_with_log}
use Rattle.cluster_world.proofs.going_on.go_on.Goals as goal

pub returns-in-Some-clause-log : goal.returns-in-Some-clause-log
returns-in-Some-clause-log g c =
    on_ok_weaker c.take.result
    (λ h. above_snapshot c.args.outcome.now.change.snapshot _ c.take.new.self.log.applied c.args.follower.now.log.applied
    c.args.outcome.now.applied c.in-Some.is (h ∙ c.as_slice.ensures)) c.take.ensures.ok_log

pub returns-in-Some-clause-given_up : goal.returns-in-Some-clause-given_up
returns-in-Some-clause-given_up g c = λ none. gone c.args.outcome.now.change.snapshot _ c.in-Some.is none

pub returns-in-Some-clause-follows : goal.returns-in-Some-clause-follows
returns-in-Some-clause-follows g c = λ first under over _ brings.
    let machine = g.M.Machine in
    let m = machine_from machine.steps first in
    let o = c.args.outcome.now.change.snapshot in
    let b = brought machine.loaded m over o _ c.in-Some.is brings in
    subst (λ z. OnOk c.take.result (Follows machine.content m (base_of z under over) c.take.new.self)) (sym c.in-Some.is)
    (c.take.ensures.ok_follows first over b.0
    (subst (λ octets. LoadsAs machine.loaded (kept_after m over) octets) (sym c.octets.ensures.octets) b.1))

pub returns-in-Some-clause-handed : goal.returns-in-Some-clause-handed
returns-in-Some-clause-handed g c = λ first under over _ brings.
    let machine = g.M.Machine in
    let m = machine_from machine.steps first in
    let o = c.args.outcome.now.change.snapshot in
    let f = c.args.follower.now in
    let b = brought machine.loaded m over o _ c.in-Some.is brings in
    on_ok_weaker c.take.result
    (λ h. hands_snapshot m under over o f c.take.new.self _ f.node c.args.boot f.log.applied c.args.outcome.now.applied c.in-Some.is
    (λ t. h t ∙ ap (λ es. said_in t f.told ++ handed_to m t f.node c.args.boot over es) c.as_slice.ensures))
    (c.take.ensures.ok_handed first over b.0
    (subst (λ octets. LoadsAs machine.loaded (kept_after m over) octets) (sym c.octets.ensures.octets) b.1))

pub returns-in-None-clause-log : goal.returns-in-None-clause-log
returns-in-None-clause-log g c =
    on_ok_weaker c.follow.result
    (λ h. above_log c.args.outcome.now.change.snapshot c.follow.new.self.log.applied c.args.follower.now.log.applied
    c.args.outcome.now.applied c.in-None.is (h ∙ ap (λ es. c.args.follower.now.log.applied ++ es) c.as_slice-in-None.ensures)) c.follow.ensures.ok_log

pub returns-in-None-clause-given_up : goal.returns-in-None-clause-given_up
returns-in-None-clause-given_up g c = λ none given_up. (
  c.follow.ensures.stays_given_up given_up,
  log_kept c.follow.result c.args.follower.now.log.applied c.follow.new.self.log.applied c.as_slice-in-None.result.now c.follow.ensures.ok_log
      c.follow.ensures.err_log (c.follow.ensures.refuses given_up),
)

pub returns-in-None-clause-follows : goal.returns-in-None-clause-follows
returns-in-None-clause-follows g c = λ first under over follows _.
    let machine = g.M.Machine in
    subst (λ z. OnOk c.follow.result (Follows machine.content (machine_from machine.steps first) (base_of z under over) c.follow.new.self))
    (sym c.in-None.is) (on_ok c.follow.result (c.follow.ensures.follows first under follows))

pub returns-in-None-clause-err_follows : goal.returns-in-None-clause-err_follows
returns-in-None-clause-err_follows g c = λ first under follows. on_err c.follow.result (c.follow.ensures.follows first under follows)

pub returns-in-None-clause-handed : goal.returns-in-None-clause-handed
returns-in-None-clause-handed g c = λ first under over follows _.
    let m = machine_from g.M.Machine.steps first in
    let o = c.args.outcome.now.change.snapshot in
    let f = c.args.follower.now in
    on_ok_weaker c.follow.result
    (λ h. hands_log m under over o f c.follow.new.self f.node c.args.boot f.log.applied c.args.outcome.now.applied c.in-None.is
    (λ t. h t ∙ ap (λ es. said_in t f.told ++ handed_to m t f.node c.args.boot (under ++ f.log.applied) es) c.as_slice-in-None.ensures))
    (c.follow.ensures.ok_handed first under follows)

pub returns-in-Some-clause-err_given_up : goal.returns-in-Some-clause-err_given_up
returns-in-Some-clause-err_given_up g c =
    given_as_was c.take.result c.args.follower.now c.take.new.self c.take.ensures.err_log c.take.ensures.err_given_up

pub returns-in-None-clause-err_given_up : goal.returns-in-None-clause-err_given_up
returns-in-None-clause-err_given_up g c =
    given_with_log c.follow.result c.args.follower.now c.follow.new.self c.follow.ensures.err_log c.follow.ensures.stays_given_up
