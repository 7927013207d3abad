-- The event happens at its member.
use Rattle.std.proofs.Common.{◌-◌, sym, ap, ◌∙◌, None}
use Rattle.paxos_node.specs.Events.{owner}
use Rattle.replica_machine.specs.Log.{machine_from}
use Rattle.cluster_world.specs.Members.{nodes_of, held_of}
use Rattle.cluster_world.specs.MemberSnapshots.{own_cut, its_event, may_happen}
use Rattle.cluster_world.specs.World.{node_at, was_sent, played}
use Rattle.cluster_world.proofs.Worlds.{shows_still, stands_still, given_up_same, later_all, off_first, off_second, placed, rests_here, agrees_here, log_here}
use Rattle.cluster_world.proofs.Worlds.{members_kept, shows_then, shows_as_before, stands_on, stands_back, given_up_on, later_on}
use Rattle.cluster_world.proofs.Worlds.{renews_unsent, renews_unable, renews_on}
use Rattle.cluster_world.proofs.run.happen_in.Goals as goal

pub returns-then-not-was_sent-clause-shows_ok : goal.returns-then-not-was_sent-clause-shows_ok
returns-then-not-was_sent-clause-shows_ok g c = λ es h. (
  None,
  shows_still g.M.Body.Body.same c.args.members c.args.event.now c.args.list.now.items c.args.sent.now.packets c.args.made.now.items c.args.octets.now
      (off_first (was_sent g.M.Body.Body.same c.args.event.now c.args.sent.now.packets)
      (may_happen c.args.event.now (node_at (nodes_of c.args.list.now.items) (owner c.args.event.now))) (sym c.if-not-was_sent.ensures)) None es h,
)

pub returns-then-not-was_sent-clause-ok : goal.returns-then-not-was_sent-clause-ok
returns-then-not-was_sent-clause-ok g c = λ first es h.
    stands_still g.M.Body.Body.same c.args.members c.args.event.now c.args.list.now.items c.args.sent.now.packets c.args.made.now.items c.args.octets.now
    (off_first (was_sent g.M.Body.Body.same c.args.event.now c.args.sent.now.packets)
    (may_happen c.args.event.now (node_at (nodes_of c.args.list.now.items) (owner c.args.event.now))) (sym c.if-not-was_sent.ensures))
    g.M.Machine.content g.M.Machine.saved g.M.Machine.loaded (machine_from g.M.Machine.steps first) es h

pub returns-then-not-was_sent-clause-later : goal.returns-then-not-was_sent-clause-later
returns-then-not-was_sent-clause-later g c = later_all (held_of c.args.members c.args.list.now.items c.args.sent.now.packets c.args.made.now.items c.args.octets.now)

pub returns-then-not-was_sent-clause-given_up : goal.returns-then-not-was_sent-clause-given_up
returns-then-not-was_sent-clause-given_up g c = given_up_same (held_of c.args.members c.args.list.now.items c.args.sent.now.packets c.args.made.now.items c.args.octets.now)

pub returns-then-not-may_happen-clause-shows_ok : goal.returns-then-not-may_happen-clause-shows_ok
returns-then-not-may_happen-clause-shows_ok g c = λ es h. (
  None,
  shows_still g.M.Body.Body.same c.args.members c.args.event.now c.args.list.now.items c.args.sent.now.packets c.args.made.now.items c.args.octets.now
      (off_second (was_sent g.M.Body.Body.same c.args.event.now c.args.sent.now.packets)
      (may_happen c.args.event.now (node_at (nodes_of c.args.list.now.items) (owner c.args.event.now)))
      (sym (c.if-not-may_happen.ensures
      ∙ ap (λ l. may_happen c.args.event.now (node_at (nodes_of l) (owner c.args.event.now))) c.deref.ensures.value))) None es h,
)

pub returns-then-not-may_happen-clause-ok : goal.returns-then-not-may_happen-clause-ok
returns-then-not-may_happen-clause-ok g c = λ first es h.
    stands_still g.M.Body.Body.same c.args.members c.args.event.now c.args.list.now.items c.args.sent.now.packets c.args.made.now.items c.args.octets.now
    (off_second (was_sent g.M.Body.Body.same c.args.event.now c.args.sent.now.packets)
    (may_happen c.args.event.now (node_at (nodes_of c.args.list.now.items) (owner c.args.event.now)))
    (sym (c.if-not-may_happen.ensures
    ∙ ap (λ l. may_happen c.args.event.now (node_at (nodes_of l) (owner c.args.event.now))) c.deref.ensures.value)))
    g.M.Machine.content g.M.Machine.saved g.M.Machine.loaded (machine_from g.M.Machine.steps first) es h

pub returns-then-not-may_happen-clause-later : goal.returns-then-not-may_happen-clause-later
returns-then-not-may_happen-clause-later g c = later_all (held_of c.args.members c.args.list.now.items c.args.sent.now.packets c.args.made.now.items c.args.octets.now)

pub returns-then-not-may_happen-clause-given_up : goal.returns-then-not-may_happen-clause-given_up
returns-then-not-may_happen-clause-given_up g c = given_up_same (held_of c.args.members c.args.list.now.items c.args.sent.now.packets c.args.made.now.items c.args.octets.now)

pub returns-then-not-was_sent-clause-renewed : goal.returns-then-not-was_sent-clause-renewed
returns-then-not-was_sent-clause-renewed g c =
    renews_unsent g.M.Machine.loaded g.M.Body.Body.same c.args.event.now
    (held_of c.args.members c.args.list.now.items c.args.sent.now.packets c.args.made.now.items c.args.octets.now) c.if-not-was_sent.ensures

pub returns-then-not-may_happen-clause-renewed : goal.returns-then-not-may_happen-clause-renewed
returns-then-not-may_happen-clause-renewed g c =
    renews_unable g.M.Machine.loaded c.args.event.now
    (held_of c.args.members c.args.list.now.items c.args.sent.now.packets c.args.made.now.items c.args.octets.now)
    (c.if-not-may_happen.ensures
    ∙ ap (λ l. may_happen c.args.event.now (node_at (nodes_of l) (owner c.args.event.now))) c.deref.ensures.value)

pub happen-requires-clause-own : goal.happen-requires-clause-own
happen-requires-clause-own g c =
    let p = (placed c.args.list.now.items c.deref.result.now c.args.event.now c.node.result c.index_mut.result.now
    c.node.ensures c.deref.ensures.value c.if-not-may_happen.ensures c.index_mut.ensures.value) in
    p.own ∙ sym (c.requires.seated.each (c.node.result - 1) c.index_mut.result.now p.at).0

pub happen-requires-clause-may : goal.happen-requires-clause-may
happen-requires-clause-may g c =
    let p = (placed c.args.list.now.items c.deref.result.now c.args.event.now c.node.result c.index_mut.result.now
    c.node.ensures c.deref.ensures.value c.if-not-may_happen.ensures c.index_mut.ensures.value) in
    p.can

pub happen-requires-clause-rests : goal.happen-requires-clause-rests
happen-requires-clause-rests g c =
    let p = (placed c.args.list.now.items c.deref.result.now c.args.event.now c.node.result c.index_mut.result.now
    c.node.ensures c.deref.ensures.value c.if-not-may_happen.ensures c.index_mut.ensures.value) in
    rests_here g.M.Body.Body.same c.args.members c.args.event.now c.args.list.now.items c.args.sent.now.packets c.args.made.now.items c.args.octets.now
    c.requires.seated (c.node.result - 1) c.index_mut.result.now p.at p.own (sym c.if-not-was_sent.ensures) p.can
    c.requires.leads.0 c.requires.leads.1

pub happen-requires-clause-agrees : goal.happen-requires-clause-agrees
happen-requires-clause-agrees g c = λ carried.
    let p = (placed c.args.list.now.items c.deref.result.now c.args.event.now c.node.result c.index_mut.result.now
    c.node.ensures c.deref.ensures.value c.if-not-may_happen.ensures c.index_mut.ensures.value) in
    agrees_here g.M.Body.Body.same c.args.members c.args.event.now c.args.list.now.items c.args.sent.now.packets c.args.made.now.items c.args.octets.now
    c.requires.seated (c.node.result - 1) c.index_mut.result.now p.at p.own (sym c.if-not-was_sent.ensures) p.can
    c.requires.leads.0 c.requires.leads.1 (record { reflexive = g.met.M.Body.Body.reflexive; sound = g.met.M.Body.Body.sound }) c.requires.many carried

pub happen-requires-clause-log : goal.happen-requires-clause-log
happen-requires-clause-log g c =
    let p = (placed c.args.list.now.items c.deref.result.now c.args.event.now c.node.result c.index_mut.result.now
    c.node.ensures c.deref.ensures.value c.if-not-may_happen.ensures c.index_mut.ensures.value) in
    log_here g.M.Body.Body.same c.args.members c.args.event.now c.args.list.now.items c.args.sent.now.packets c.args.made.now.items c.args.octets.now
    c.requires.seated (c.node.result - 1) c.index_mut.result.now p.at p.own (sym c.if-not-was_sent.ensures) p.can
    (played g.M.Body.Body.same c.args.members c.requires.leads.0) c.requires.leads.1

pub returns-clause-seated : goal.returns-clause-seated
returns-clause-seated g c =
    let p = (placed c.args.list.now.items c.deref.result.now c.args.event.now c.node.result c.index_mut.result.now
    c.node.ensures c.deref.ensures.value c.if-not-may_happen.ensures c.index_mut.ensures.value) in
    members_kept c.args.members c.args.list.now.items (c.node.result - 1) c.index_mut.result.now c.happen.new.self c.requires.seated p.at
    c.happen.ensures.me c.happen.ensures.members c.happen.ensures.machine

pub returns-clause-shows_ok : goal.returns-clause-shows_ok
returns-clause-shows_ok g c = λ es h.
    let p = (placed c.args.list.now.items c.deref.result.now c.args.event.now c.node.result c.index_mut.result.now
    c.node.ensures c.deref.ensures.value c.if-not-may_happen.ensures c.index_mut.ensures.value) in
    shows_then g.M.Body.Body.same c.args.members c.args.event.now c.args.list.now.items c.args.sent.now.packets c.args.made.now.items c.args.octets.now
    c.requires.seated (c.node.result - 1) c.index_mut.result.now p.at p.own (sym c.if-not-was_sent.ensures) p.can
    c.happen.result c.happen.new.self c.happen.new.sent.packets c.happen.new.made.items
    (own_cut g.M.Machine.saved g.M.Machine.content c.index_mut.result.now.machine.log) es h c.happen.ensures.ok

pub returns-clause-shows_err : goal.returns-clause-shows_err
returns-clause-shows_err g c = λ es h.
    let p = (placed c.args.list.now.items c.deref.result.now c.args.event.now c.node.result c.index_mut.result.now
    c.node.ensures c.deref.ensures.value c.if-not-may_happen.ensures c.index_mut.ensures.value) in
    shows_as_before g.M.Body.Body.same c.args.members c.args.event.now c.args.list.now.items c.args.sent.now.packets c.args.made.now.items c.args.octets.now
    c.requires.seated (c.node.result - 1) c.index_mut.result.now p.at p.own (sym c.if-not-was_sent.ensures) p.can
    c.happen.result c.happen.new.self c.happen.new.sent.packets c.happen.new.made.items es h c.happen.ensures.err

pub returns-clause-ok : goal.returns-clause-ok
returns-clause-ok g c = λ first es h.
    let p = (placed c.args.list.now.items c.deref.result.now c.args.event.now c.node.result c.index_mut.result.now
    c.node.ensures c.deref.ensures.value c.if-not-may_happen.ensures c.index_mut.ensures.value) in
    stands_on g.M.Body.Body.same (record { reflexive = g.met.M.Body.Body.reflexive; sound = g.met.M.Body.Body.sound }) c.args.members
    c.requires.many c.requires.few c.args.event.now c.args.list.now.items c.args.sent.now.packets c.args.made.now.items c.args.octets.now
    g.M.Machine.content g.M.Machine.saved g.M.Machine.loaded (machine_from g.M.Machine.steps first)
    c.requires.seated (c.node.result - 1) c.index_mut.result.now p.at p.own (sym c.if-not-was_sent.ensures) p.can es h
    c.happen.result c.happen.new.self c.happen.new.sent.packets c.happen.new.made.items
    c.happen.ensures.within c.happen.ensures.ok c.happen.ensures.alive (c.happen.ensures.loads first) (c.happen.ensures.happens first)

pub returns-clause-err : goal.returns-clause-err
returns-clause-err g c = λ first es h.
    let p = (placed c.args.list.now.items c.deref.result.now c.args.event.now c.node.result c.index_mut.result.now
    c.node.ensures c.deref.ensures.value c.if-not-may_happen.ensures c.index_mut.ensures.value) in
    stands_back g.M.Body.Body.same (record { reflexive = g.met.M.Body.Body.reflexive; sound = g.met.M.Body.Body.sound }) c.args.members
    c.requires.many c.requires.few c.args.event.now c.args.list.now.items c.args.sent.now.packets c.args.made.now.items c.args.octets.now
    g.M.Machine.content g.M.Machine.saved g.M.Machine.loaded (machine_from g.M.Machine.steps first)
    c.requires.seated (c.node.result - 1) c.index_mut.result.now p.at p.own (sym c.if-not-was_sent.ensures) p.can es h
    c.happen.result c.happen.new.self c.happen.new.sent.packets c.happen.new.made.items
    c.happen.ensures.err (c.happen.ensures.rests first)

pub returns-clause-later : goal.returns-clause-later
returns-clause-later g c =
    let p = (placed c.args.list.now.items c.deref.result.now c.args.event.now c.node.result c.index_mut.result.now
    c.node.ensures c.deref.ensures.value c.if-not-may_happen.ensures c.index_mut.ensures.value) in
    later_on c.args.members c.args.list.now.items c.args.sent.now.packets c.happen.new.sent.packets c.args.made.now.items c.happen.new.made.items
    c.args.octets.now (c.node.result - 1) c.index_mut.result.now c.happen.new.self p.at
    c.happen.result g.M.Body.Body.same (its_event g.M.Machine.saved g.M.Machine.content c.index_mut.result.now.machine c.args.event.now)
    c.happen.ensures.ok c.happen.ensures.err

pub returns-clause-given_up : goal.returns-clause-given_up
returns-clause-given_up g c =
    let p = (placed c.args.list.now.items c.deref.result.now c.args.event.now c.node.result c.index_mut.result.now
    c.node.ensures c.deref.ensures.value c.if-not-may_happen.ensures c.index_mut.ensures.value) in
    given_up_on c.args.members c.args.list.now.items c.args.sent.now.packets c.happen.new.sent.packets c.args.made.now.items c.happen.new.made.items
    c.args.octets.now (c.node.result - 1) c.index_mut.result.now c.happen.new.self p.at c.happen.ensures.given_up

pub returns-clause-renewed : goal.returns-clause-renewed
returns-clause-renewed g c =
    let p = (placed c.args.list.now.items c.deref.result.now c.args.event.now c.node.result c.index_mut.result.now
    c.node.ensures c.deref.ensures.value c.if-not-may_happen.ensures c.index_mut.ensures.value) in
    renews_on c.args.members c.args.list.now.items c.args.sent.now.packets c.happen.new.sent.packets c.args.made.now.items c.happen.new.made.items
    c.args.octets.now (c.node.result - 1) c.index_mut.result.now c.happen.new.self p.at
    c.happen.result g.M.Machine.loaded c.args.event.now p.own c.happen.ensures.renewed
