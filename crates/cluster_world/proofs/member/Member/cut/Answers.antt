-- The member's node and machine are the two that cut.
use Rattle.std.proofs.Common.{◌≡◌, ◌<◌, ◌^◌, true, subst, ◌++◌, length}
use Rattle.std.specs.Prelude.{OnOk}
use Rattle.replica_machine.specs.Given.{AreGiven}
use Rattle.replica_machine.specs.Log.{machine_from}
use Rattle.replica_follower.specs.Following.{Follows}
use Rattle.world_nodes.specs.Nodes.{node_of}
use Rattle.cluster_world.specs.Members.{MemberState}
use Rattle.cluster_world.specs.MemberSnapshots.{own_cut, LoadsSaved, StillFollows}
use Rattle.cluster_world.specs.StandsAt.{HasLog}
use Rattle.cluster_world.proofs.member.Member.cut.Goals as goal

pub cut-requires-clause-log : goal.cut-requires-clause-log
cut-requires-clause-log g c =
    let node = node_of c.self.inside.node in
    let follower = c.self.inside.follower in
    subst (λ (s : MemberState _ _ _). s.node.up ≡ true → HasLog s.node s.machine → follower.log.applied ≡ node.applied) c.self.view_is
    (λ up log. log up) c.requires.up c.requires.log

pub returns-clause-follows : goal.returns-clause-follows
returns-clause-follows g c = λ first under follows.
    let m = machine_from g.M.Machine.steps first in
    let content = g.M.Machine.content in
    subst
    (λ (s : MemberState _ _ _). Follows content m under s.machine
    → OnOk c.cut.result (StillFollows content m (own_cut g.M.Machine.saved content s.machine.log) under s.node c.cut.new.follower))
    c.self.view_is (λ h. c.cut.ensures.follows first under h) follows

pub returns-clause-loads : goal.returns-clause-loads
returns-clause-loads g c = λ first under follows given short.
    let m = machine_from g.M.Machine.steps first in
    subst
    (λ (s : MemberState _ _ _). Follows g.M.Machine.content m under s.machine → AreGiven (under ++ s.node.applied)
    → length (under ++ s.node.applied) < 2 ^ 40
    → OnOk c.cut.result (LoadsSaved g.M.Machine.saved g.M.Machine.loaded m (under ++ s.node.applied)))
    c.self.view_is (λ h are few. c.cut.ensures.loads first under h are few) follows given short
