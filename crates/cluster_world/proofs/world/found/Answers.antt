-- One more.
use Rattle.std.proofs.Common.{◌≡◌, suc, ◌+◌, sym, ◌∙◌, subst, arith, List, length}
use Rattle.paxos_packets.specs.declared.entry.Entry.{Entry}
use Rattle.replica_machine.specs.Log.{machine_from}
use Rattle.cluster_world.specs.Founding.{AreFounded, AllFollow}
use Rattle.cluster_world.specs.Members.{MemberState}
use Rattle.cluster_world.proofs.Founding.{founded_more, follow_more}
use Rattle.cluster_world.proofs.world.found.Goals as goal

pub returns-clause-founded : goal.returns-clause-founded
returns-clause-founded g c =
    let me : c.len.result + 1 ≡ suc (length c.args.list.now.items) = omega (arith, c.len.ensures) in
    subst (λ (z : List (MemberState _ _ _) × List (Entry _)). AreFounded c.args.members z.0 z.1)
    (λ j. (sym c.push_reserved.ensures.items j, sym c.push_reserved-2.ensures.items j))
    (founded_more c.args.members c.args.list.now.items c.args.made.now.items (c.len.result + 1) c.in-Ok.member c.requires.founded me
    c.in-Ok.ensures.node
    (record {
      me = c.in-Ok.ensures.me ∙ me;
      members_are = c.in-Ok.ensures.members;
      node = c.in-Ok.ensures.machine ∙ me;
      log = c.in-Ok.ensures.log;
      told = c.in-Ok.ensures.told;
      alive = c.in-Ok.ensures.given_up;
    }))

pub returns-clause-follows : goal.returns-clause-follows
returns-clause-follows g c = λ first is all.
    let m = machine_from g.M.Machine.steps first in
    subst (λ (z : List (MemberState _ _ _)). AllFollow g.M.Machine.content m z) (sym c.push_reserved.ensures.items)
    (follow_more g.M.Machine.content m c.args.list.now.items c.in-Ok.member all (c.in-Ok.ensures.follows first is))
