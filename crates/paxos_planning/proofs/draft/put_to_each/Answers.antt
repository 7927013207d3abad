use Rattle.std.proofs.Common.{[], ◌∷◌, ◌++◌, ◌+◌, map, drop, get_or}
use Rattle.std.proofs.lemmas.List.{at_drop_all, at_drop_more}
use Rattle.paxos_packets.specs.Packet.{packet}
use Rattle.paxos_planning.proofs.Sending.{pushed, sent_on, sent_all}
use Rattle.paxos_planning.proofs.draft.put_to_each.Goals as goal

pub loop-other-preserved : goal.loop-other-preserved
loop-other-preserved g c =
    let f = packet c.args.me c.args.kind.now in
    let other = get_or c.args.others.now c.loop-other.other-index 0 in
    sent_on c.loop-other.packets.items (map f (drop c.loop-other.other-index c.args.others.now)) (c.args.packets.now.items ++ map f c.args.others.now)
    c.loop-other.invariant
    c.push_reserved.new.self.items (f other ∷ []) (map f (drop (c.loop-other.other-index + 1) c.args.others.now))
    (pushed c.loop-other.packets.items c.reserve.new.self.items c.push_reserved.new.self.items (packet c.args.me c.in-Ok.copy other) (f other)
    c.push_reserved.ensures.items c.reserve.ensures.items (λ i. packet c.args.me (c.in-Ok.ensures i) other))
    (at_drop_more (λ l. map f l) c.args.others.now c.loop-other.other-index 0 c.loop-other-test.true)

pub returns : goal.returns
returns g c = record {
  ok = sent_all c.loop-other.packets.items (map (packet c.args.me c.args.kind.now) (drop c.loop-other.other-index c.args.others.now))
      (c.args.packets.now.items ++ map (packet c.args.me c.args.kind.now) c.args.others.now)
      c.loop-other.invariant (at_drop_all (λ l. map (packet c.args.me c.args.kind.now) l) c.args.others.now c.loop-other.other-index c.loop-other-test.false);
}
