-- The first world.
use Rattle.std.proofs.Common.{◌≤◌, [], sym, ap, ◌∙◌, subst, arith, List}
use Rattle.std.specs.Prelude.{slice_get}
use Rattle.paxos_packets.specs.declared.packet.Packet.{Packet}
use Rattle.replica_machine.specs.Log.{machine_from}
use Rattle.cluster_world.specs.Members.{held_of}
use Rattle.cluster_world.specs.StandsAt.{Shows, StandsIn}
use Rattle.cluster_world.specs.World.{first_world}
use Rattle.cluster_world.proofs.Founding.{are_members, shows_first, stands_first, none_given_up, first_of}
use Rattle.cluster_world.proofs.world.World.new.Goals as goal

pub invariant_of-result : goal.invariant_of-result
invariant_of-result g c =
    let e = c.in_ok-found_all.ensures in (
      are_members c.args.members c.found_all.new.list.items c.found_all.new.made.items e.founded e.count,
      (
        [],
        subst (λ (l : List (Packet _)). Shows
            (held_of c.args.members c.found_all.new.list.items l c.found_all.new.made.items c.in_ok-first.first.items) (first_world c.args.members))
            (sym c.new.ensures)
            (shows_first c.args.members c.found_all.new.list.items c.found_all.new.made.items c.in_ok-first.first.items e.founded e.count),
      ),
    )

pub returns-clause-alive : goal.returns-clause-alive
returns-clause-alive g c =
    none_given_up c.args.members c.found_all.new.list.items c.found_all.new.made.items c.in_ok-found_all.ensures.founded

pub returns-clause-stands : goal.returns-clause-stands
returns-clause-stands g c = λ first h.
    let e = c.in_ok-found_all.ensures in
    let m = machine_from g.M.Machine.steps first in
    let least : 3 ≤ c.args.members = omega (arith, c.count.ensures.value, c.count.ensures.least) in
    let one = first_of c.found_all.new.list.items c.args.members e.count least in
    let begun = e.founded.each 0 one.0 one.1 in
    let all = e.follows first h in
    subst
    (λ (l : List (Packet _)). StandsIn g.M.Machine.content g.M.Machine.loaded m
    (held_of c.args.members c.found_all.new.list.items l c.found_all.new.made.items c.in_ok-first.first.items) (first_world c.args.members))
    (sym c.new.ensures)
    (stands_first g.M.Machine.content g.M.Machine.loaded m c.args.members
    c.found_all.new.list.items c.found_all.new.made.items c.in_ok-first.first.items e.founded e.count all
    (c.in_ok-first.ensures first one.0 (ap (λ l. slice_get l 0) c.deref.ensures.value ∙ one.1) begun.alive begun.log (all 0 one.0 one.1)))
