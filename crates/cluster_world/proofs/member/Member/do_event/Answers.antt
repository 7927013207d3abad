-- The machine stands where its node stands.
use Rattle.std.proofs.Common.{◌≡◌, true, false, sym, ◌∙◌, subst}
use Rattle.std.specs.Prelude.{OnOk, OnErr}
use Rattle.paxos_node.specs.Events.{owner, outcome_of}
use Rattle.paxos_node.specs.Plans.{plans}
use Rattle.replica_machine.specs.Log.{machine_from}
use Rattle.replica_follower.specs.Following.{Follows}
use Rattle.world_nodes.specs.Nodes.{node_of}
use Rattle.cluster_world.specs.Members.{MemberState, Unmoved, Goes, GoesOn, Rests, TakesOver, StaysThere, IsGivenUp}
use Rattle.cluster_world.specs.MemberSnapshots.{its_event, is_carried, may_happen, Brings}
use Rattle.cluster_world.specs.StandsAt.{HasLog}
use Rattle.cluster_world.proofs.Attends.{up_carried, moved, unmoved, goes, goes_on, happens_all, rests_all, stays_given_up, if_refused}
use Rattle.cluster_world.proofs.MemberEvents.{plans_carried, possible_carried, its_carried, taken_is}
use Rattle.cluster_world.proofs.member.Member.do_event.Goals as goal

pub do_event_at-requires-clause-plans : goal.do_event_at-requires-clause-plans
do_event_at-requires-clause-plans g c =
    let node = c.self.inside.node in
    let event = c.args.event.now in
    subst (λ (s : MemberState _ _ _). owner event ≡ s.me → may_happen event s.node ≡ true → plans node.me event (node_of node) ≡ true) c.self.view_is
    (λ own may. plans_carried node.me event (node_of node) (own ∙ sym c.self.invariant.0) c.requires.carried may) c.requires.own c.requires.may

pub do_event_at-requires-clause-agrees : goal.do_event_at-requires-clause-agrees
do_event_at-requires-clause-agrees g c =
    let node = c.self.inside.node in
    let event = c.args.event.now in
    subst
    (λ (s : MemberState _ _ _). (is_carried event ≡ true → (outcome_of g.M.Body.Body.same s.members event s.node).disagrees ≡ false)
    → (outcome_of g.M.Body.Body.same node.members event (node_of node)).disagrees ≡ false)
    c.self.view_is (λ agrees. agrees c.requires.carried) c.requires.agrees

pub do_event_at-requires-clause-log : goal.do_event_at-requires-clause-log
do_event_at-requires-clause-log g c =
    let old : MemberState _ _ _ = record {
      me = c.self.inside.me;
      members = c.self.inside.node.members;
      node = node_of c.self.inside.node;
      machine = c.self.inside.follower;
    } in
    subst
    (λ (s : MemberState _ _ _). may_happen c.args.event.now s.node ≡ true → HasLog s.node s.machine
    → old.machine.log.applied ≡ old.node.applied)
    c.self.view_is (λ may log. log (up_carried c.args.event.now old.node c.requires.carried may)) c.requires.may c.requires.log

pub returns-clause-ok : goal.returns-clause-ok
returns-clause-ok g c =
    let same = g.M.Body.Body.same in
    let event = c.args.event.now in
    let carried = c.requires.carried in
    let sent = c.args.sent.now.packets in
    let later = c.do_event_at.new.sent.packets in
    let made = c.args.made.now.items in
    let more = c.do_event_at.new.made.items in
    let old : MemberState _ _ _ = record {
      me = c.self.inside.me;
      members = c.self.inside.node.members;
      node = node_of c.self.inside.node;
      machine = c.self.inside.follower;
    } in
    let new : MemberState _ _ _ = record {
      me = c.self.inside.me;
      members = c.do_event_at.new.node.members;
      node = node_of c.do_event_at.new.node;
      machine = c.do_event_at.new.follower;
    } in
    subst
    (λ (s : MemberState _ _ _). may_happen event s.node ≡ true
    → OnOk c.do_event_at.result (Goes same (its_event g.M.Machine.saved g.M.Machine.content s.machine event) s new sent later made more))
    c.self.view_is
    (λ may.
    let can = possible_carried event old.node carried may in
    subst (λ e. OnOk c.do_event_at.result (Goes same e old new sent later made more))
    (sym (its_carried g.M.Machine.saved g.M.Machine.content old.machine event carried))
    (goes same c.do_event_at.result event old new sent later made more can
    (moved same c.do_event_at.result event old new sent later made more can (up_carried event old.node carried may) carried
    c.do_event_at.ensures.node c.do_event_at.ensures.packets c.do_event_at.ensures.made c.do_event_at.ensures.log)))
    c.requires.may

pub returns-clause-err : goal.returns-clause-err
returns-clause-err g c =
    let old : MemberState _ _ _ = record {
      me = c.self.inside.me;
      members = c.self.inside.node.members;
      node = node_of c.self.inside.node;
      machine = c.self.inside.follower;
    } in
    let new : MemberState _ _ _ = record {
      me = c.self.inside.me;
      members = c.do_event_at.new.node.members;
      node = node_of c.do_event_at.new.node;
      machine = c.do_event_at.new.follower;
    } in
    subst
    (λ (s : MemberState _ _ _). HasLog s.node s.machine
    → OnErr c.do_event_at.result (Unmoved s new c.args.sent.now.packets c.do_event_at.new.sent.packets c.args.made.now.items
    c.do_event_at.new.made.items)) c.self.view_is
    (λ l. unmoved c.do_event_at.result old new c.args.sent.now.packets c.do_event_at.new.sent.packets c.args.made.now.items
    c.do_event_at.new.made.items c.do_event_at.ensures.err_node c.do_event_at.ensures.err_packets c.do_event_at.ensures.err_made
    c.do_event_at.ensures.err_log l) c.requires.log

pub returns-clause-given_up : goal.returns-clause-given_up
returns-clause-given_up g c =
    let event = c.args.event.now in
    let old : MemberState _ _ _ = record {
      me = c.self.inside.me;
      members = c.self.inside.node.members;
      node = node_of c.self.inside.node;
      machine = c.self.inside.follower;
    } in
    let new : MemberState _ _ _ = record {
      me = c.self.inside.me;
      members = c.do_event_at.new.node.members;
      node = node_of c.do_event_at.new.node;
      machine = c.do_event_at.new.follower;
    } in
    subst
    (λ (s : MemberState _ _ _). may_happen event s.node ≡ true → s.machine.given_up ≡ true → StaysThere s.node new.node
    → IsGivenUp s.machine.log.applied new.machine) c.self.view_is
    (λ may up there. stays_given_up g.M.Body.Body.same c.do_event_at.result event old new
    (possible_carried event old.node c.requires.carried may) (up_carried event old.node c.requires.carried may) c.requires.carried
    c.do_event_at.ensures.node (λ none. c.do_event_at.ensures.given_up none up)
    (if_refused _ c.do_event_at.result c.do_event_at.ensures.err_given_up up) there)
    c.requires.may

pub returns-clause-happens : goal.returns-clause-happens
returns-clause-happens g c = λ first under over takes h.
    let m = machine_from g.M.Machine.steps first in
    let same = g.M.Body.Body.same in
    let content = g.M.Machine.content in
    let event = c.args.event.now in
    let carried = c.requires.carried in
    let old : MemberState _ _ _ = record {
      me = c.self.inside.me;
      members = c.self.inside.node.members;
      node = node_of c.self.inside.node;
      machine = c.self.inside.follower;
    } in
    let new : MemberState _ _ _ = record {
      me = c.self.inside.me;
      members = c.do_event_at.new.node.members;
      node = node_of c.do_event_at.new.node;
      machine = c.do_event_at.new.follower;
    } in
    subst
    (λ (s : MemberState _ _ _). may_happen event s.node ≡ true → TakesOver same g.M.Machine.loaded m event over s → Follows content m under s.machine
    → OnOk c.do_event_at.result (GoesOn same content m (its_event g.M.Machine.saved content s.machine event) under over s new)) c.self.view_is
    (λ may b a.
    let can = possible_carried event old.node carried may in
    let up = up_carried event old.node carried may in
    let brings = subst (λ o. Brings g.M.Machine.loaded m over o) (taken_is same old.members event old.node up carried can) b in
    subst (λ e. OnOk c.do_event_at.result (GoesOn same content m e under over old new))
    (sym (its_carried g.M.Machine.saved content old.machine event carried))
    (goes_on same content m c.do_event_at.result event under over old new can
    (happens_all same content m c.do_event_at.result event under over old new up carried can
    (c.do_event_at.ensures.handed first under over a brings) (c.do_event_at.ensures.follows first under over a brings))))
    c.requires.may takes h

pub returns-clause-rests : goal.returns-clause-rests
returns-clause-rests g c = λ first under h.
    let m = machine_from g.M.Machine.steps first in
    let old : MemberState _ _ _ = record {
      me = c.self.inside.me;
      members = c.self.inside.node.members;
      node = node_of c.self.inside.node;
      machine = c.self.inside.follower;
    } in
    let new : MemberState _ _ _ = record {
      me = c.self.inside.me;
      members = c.do_event_at.new.node.members;
      node = node_of c.do_event_at.new.node;
      machine = c.do_event_at.new.follower;
    } in
    subst
    (λ (s : MemberState _ _ _). Follows g.M.Machine.content m under s.machine
    → OnErr c.do_event_at.result (Rests g.M.Machine.content m under s new)) c.self.view_is
    (λ a. rests_all g.M.Body.Body.same g.M.Machine.content m c.do_event_at.result under old new c.do_event_at.ensures.err_handed
    (c.do_event_at.ensures.err_follows first under a)) h
