-- The node rests on what its machine saves, or it has nothing to cut.
use Rattle.std.proofs.Common.{◌≡◌, ◌<◌, ◌^◌, true, false, refl, sym, ap, ◌∙◌, subst, ◌++◌, length}
use Rattle.std.specs.Prelude.{is_some, IfSome}
use Rattle.paxos_node.specs.declared.event.Event.TheVariants.{Cut}
use Rattle.paxos_node.specs.Adopting.{Fits, Planned}
use Rattle.paxos_node.specs.Snapshots.{may_cut}
use Rattle.replica_machine.specs.Given.{AreGiven}
use Rattle.replica_machine.specs.Log.{machine_from}
use Rattle.world_nodes.specs.Nodes.{node_of}
use Rattle.cluster_world.specs.MemberSnapshots.{own_cut, LoadsSaved}
use Rattle.cluster_world.proofs.MemberCuts.{cut_done, cut_none, follows_done, follows_none}
use Rattle.cluster_world.proofs.cutting.cut.Goals as goal

pub rest-requires-clause-fits : goal.rest-requires-clause-fits
rest-requires-clause-fits g c =
    subst (λ r. IfSome r (λ o. Fits c.args.node.now.me c.args.node.now.members o (node_of c.args.node.now))) c.in-Some.is
    c.in_ok-outcome.ensures.fits

pub returns-in_ok-rest-in-Some-clause-ok : goal.returns-in_ok-rest-in-Some-clause-ok
returns-in_ok-rest-in-Some-clause-ok g c =
    let s = own_cut g.M.Machine.saved g.M.Machine.content c.args.follower.now.log in
    let node = c.args.node.now in
    let may : may_cut s (node_of node) ≡ true = sym c.in_ok-outcome.ensures.refused ∙ ap (λ r. is_some r) c.in-Some.is in
    let planned = subst (λ r. IfSome r (λ o. Planned g.M.Body.Body.same node.members (Cut node.me s) (node_of node) o)) c.in-Some.is
    c.in_ok-outcome.ensures.planned in
    cut_done g.M.Body.Body.same node.me node.members (node_of node) s c.args.follower.now (node_of c.rest.new.node) c.rest_on.new.self may
    c.requires.rests (c.in_ok-rest-in-Some.ensures.ok ∙ planned.node) c.rest_on.ensures.applied c.rest_on.ensures.told

pub returns-in_ok-rest-in-Some-clause-follows : goal.returns-in_ok-rest-in-Some-clause-follows
returns-in_ok-rest-in-Some-clause-follows g c = λ first under follows.
    let s = own_cut g.M.Machine.saved g.M.Machine.content c.args.follower.now.log in
    let node = c.args.node.now in
    let may : may_cut s (node_of node) ≡ true = sym c.in_ok-outcome.ensures.refused ∙ ap (λ r. is_some r) c.in-Some.is in
    follows_done g.M.Body.Body.same node.me node.members (node_of node) s c.args.follower.now g.M.Machine.content
    (machine_from g.M.Machine.steps first) under c.rest_on.new.self may c.requires.log (c.rest_on.ensures.follows first under follows)

pub returns-in-None-clause-ok : goal.returns-in-None-clause-ok
returns-in-None-clause-ok g c =
    let s = own_cut g.M.Machine.saved g.M.Machine.content c.args.follower.now.log in
    let node = c.args.node.now in
    let never : may_cut s (node_of node) ≡ false = sym c.in_ok-outcome.ensures.refused ∙ ap (λ r. is_some r) c.in-None.is in
    cut_none g.M.Body.Body.same node.me node.members (node_of node) s c.args.follower.now (node_of node) never c.requires.log
    refl

pub returns-in-None-clause-follows : goal.returns-in-None-clause-follows
returns-in-None-clause-follows g c = λ first under follows.
    let s = own_cut g.M.Machine.saved g.M.Machine.content c.args.follower.now.log in
    let node = c.args.node.now in
    let never : may_cut s (node_of node) ≡ false = sym c.in_ok-outcome.ensures.refused ∙ ap (λ r. is_some r) c.in-None.is in
    follows_none g.M.Body.Body.same node.me node.members (node_of node) s c.args.follower.now g.M.Machine.content
    (machine_from g.M.Machine.steps first) under never follows

pub returns-in_ok-rest-in-Some-clause-loads : goal.returns-in_ok-rest-in-Some-clause-loads
returns-in_ok-rest-in-Some-clause-loads g c = λ first under follows given short.
    let m = machine_from g.M.Machine.steps first in
    subst
    (λ log. AreGiven (under ++ log) → length (under ++ log) < 2 ^ 40 → LoadsSaved g.M.Machine.saved g.M.Machine.loaded m (under ++ log))
    c.requires.log (λ are few. c.in_ok-outcome.ensures.loads first under follows are few) given short

pub returns-in-None-clause-loads : goal.returns-in-None-clause-loads
returns-in-None-clause-loads g c = λ first under follows given short.
    let m = machine_from g.M.Machine.steps first in
    subst
    (λ log. AreGiven (under ++ log) → length (under ++ log) < 2 ^ 40 → LoadsSaved g.M.Machine.saved g.M.Machine.loaded m (under ++ log))
    c.requires.log (λ are few. c.in_ok-outcome.ensures.loads first under follows are few) given short
