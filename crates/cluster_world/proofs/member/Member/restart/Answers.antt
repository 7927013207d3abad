-- A machine that is made anew has the content of its node's snapshot, or the first one.
use Rattle.std.proofs.Common.{◌≡◌, None, sym, subst}
use Rattle.replica_machine.specs.Log.{machine_from}
use Rattle.replica_machine.specs.Snapshot.{kept_after, loaded_log}
use Rattle.replica_follower.specs.Following.{LoadsAs}
use Rattle.cluster_world.specs.Members.{MemberState, RestartsAt}
use Rattle.cluster_world.specs.MemberSnapshots.{octets_at}
use Rattle.cluster_world.proofs.member.Member.restart.Goals as goal

pub returns-in_err-restart-clause-follows : goal.returns-in_err-restart-clause-follows
returns-in_err-restart-clause-follows g c = λ first under at h.
    let m = machine_from g.M.Machine.steps first in
    let there = subst (λ (s : MemberState _ _ _). RestartsAt g.M.Machine.loaded m c.args.octets.now under s) (sym c.self.view_is) at in
    c.in_ok-renew.ensures.follows first under there.0
    (subst (λ octets. LoadsAs g.M.Machine.loaded (kept_after m under) octets) (sym c.octets_at.ensures) there.1)

pub returns-clause-follows : goal.returns-clause-follows
returns-clause-follows g c = λ first under at h.
    let m = machine_from g.M.Machine.steps first in
    let there = subst (λ (s : MemberState _ _ _). RestartsAt g.M.Machine.loaded m c.args.octets.now under s) (sym c.self.view_is) at in
    c.in_ok-renew.ensures.follows first under there.0
    (subst (λ octets. LoadsAs g.M.Machine.loaded (kept_after m under) octets) (sym c.octets_at.ensures) there.1)

pub returns-clause-renewed : goal.returns-clause-renewed
returns-clause-renewed g c = λ up.
    subst (λ (s : MemberState _ _ _). loaded_log g.M.Machine.loaded (octets_at c.args.octets.now s.node.rows.snapshot) ≡ None) c.self.view_is
    (subst (λ octets. loaded_log g.M.Machine.loaded octets ≡ None) c.octets_at.ensures (c.in_ok-renew.ensures.damaged up))
