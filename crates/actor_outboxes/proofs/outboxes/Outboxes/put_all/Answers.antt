use Rattle.std.proofs.Common.{◌≡◌, List, [], ◌∷◌, ◌++◌, subst, sym, ap, ◌∙◌, refl, rules}
use Rattle.std.proofs.lemmas.List.{append_assoc, append-nil, nil_from_length}
use Rattle.std.specs.Vec.Iter.{into_iter_items}
use Rattle.paxos_packets.specs.declared.packet.Packet.{Packet}
use Rattle.actor_outboxes.specs.Outboxes.{Waiting, WaitBehind}
use Rattle.actor_outboxes.proofs.Filing.{waits_still, waits_more}
use Rattle.actor_outboxes.proofs.outboxes.Outboxes.put_all.Goals as goal

pub loop-packet-init : goal.loop-packet-init
loop-packet-init g c = (refl, refl, waits_still c.args.self.now c.limits.ensures, search rules)

pub loop-packet-preserved : goal.loop-packet-preserved
loop-packet-preserved g c =
    let was = c.loop-packet.invariant in
    let rest : List (Packet g.row.B.Denot) = into_iter_items c.next.new.self in
    let step : into_iter_items c.loop-packet.packet-iterator ≡ c.in-Some.packet ∷ rest = search rules in (
      c.put.ensures.me ∙ was.0,
      c.put.ensures.members ∙ was.1,
      waits_more c.loop-packet.yielded c.in-Some.packet c.args.self.now c.loop-packet.self c.put.new.self was.0 was.1 was.2 c.put.ensures.waits,
      append_assoc c.loop-packet.yielded (c.in-Some.packet ∷ []) rest ∙ ap (λ ps. c.loop-packet.yielded ++ ps) (sym step) ∙ was.3,
    )

pub returns-clause-waits : goal.returns-clause-waits
returns-clause-waits g c =
    let was = c.loop-packet.invariant in
    let none : into_iter_items c.loop-packet.packet-iterator ≡ [] =
    nil_from_length (into_iter_items c.loop-packet.packet-iterator) (sym c.loop-packet.packet-iterator.rest.ok.0 ∙ c.in-None.ensures.steps.0) in
    let all : c.loop-packet.yielded ≡ c.args.packets.items =
    sym (append-nil c.loop-packet.yielded) ∙ ap (λ ps. c.loop-packet.yielded ++ ps) (sym none) ∙ was.3 in
    subst (λ (ps : List (Packet g.row.B.Denot)). WaitBehind ps c.args.self.now c.loop-packet.self) all was.2
