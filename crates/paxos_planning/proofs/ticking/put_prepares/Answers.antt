use Rattle.std.proofs.Common.{ℕ, List, [], ◌∷◌, ◌++◌, ◌+◌, not, map, filter, drop, get_or, refl, sym, ◌∙◌}
use Rattle.std.proofs.lemmas.List.{append-nil, at_drop_all, at_drop_more}
use Rattle.paxos_packets.specs.Packet.{packet}
use Rattle.paxos_packets.specs.declared.packet.Kind.TheVariants.{Prepare}
use Rattle.paxos_proposer.specs.Proposing.{promises_of}
use Rattle.paxos_proposer.specs.Reports.{is_counted}
use Rattle.paxos_proposer.specs.State.{role_in}
use Rattle.paxos_planning.proofs.Sending.{pushed, sent_on, sent_all, left_in, left_out}
use Rattle.paxos_planning.proofs.ticking.put_prepares.Goals as goal

pub loop-other-preserved : goal.loop-other-preserved
loop-other-preserved g c =
    let f = packet c.args.me (Prepare c.args.ballot c.args.first) in
    let counted = is_counted (promises_of (role_in c.args.proposer.now)) in
    let other = get_or c.args.others.now c.loop-other.other-index 0 in
    let rest = drop (c.loop-other.other-index + 1) c.args.others.now in
    sent_on c.loop-other.packets.items (map f (filter (λ k. not (counted k)) (drop c.loop-other.other-index c.args.others.now)))
    (c.args.packets.now.items ++ map f (filter (λ k. not (counted k)) c.args.others.now)) c.loop-other.invariant
    c.push_reserved.new.self.items (f other ∷ []) (map f (filter (λ k. not (counted k)) rest))
    (pushed c.loop-other.packets.items c.reserve.new.self.items c.push_reserved.new.self.items (f other) (f other) c.push_reserved.ensures.items
    c.reserve.ensures.items refl)
    (at_drop_more (λ (ks : List ℕ). map f (filter (λ k. not (counted k)) ks)) c.args.others.now c.loop-other.other-index 0 c.loop-other-test.true
    ∙ left_in f counted other rest c.if-is_counted.ensures)

pub loop-other-preserved-then-is_counted : goal.loop-other-preserved-then-is_counted
loop-other-preserved-then-is_counted g c =
    let f = packet c.args.me (Prepare c.args.ballot c.args.first) in
    let counted = is_counted (promises_of (role_in c.args.proposer.now)) in
    let rest = drop (c.loop-other.other-index + 1) c.args.others.now in
    sent_on c.loop-other.packets.items (map f (filter (λ k. not (counted k)) (drop c.loop-other.other-index c.args.others.now)))
    (c.args.packets.now.items ++ map f (filter (λ k. not (counted k)) c.args.others.now)) c.loop-other.invariant
    c.loop-other.packets.items [] (map f (filter (λ k. not (counted k)) rest)) (sym (append-nil c.loop-other.packets.items))
    (at_drop_more (λ (ks : List ℕ). map f (filter (λ k. not (counted k)) ks)) c.args.others.now c.loop-other.other-index 0 c.loop-other-test.true
    ∙ left_out f counted (get_or c.args.others.now c.loop-other.other-index 0) rest c.if-is_counted.ensures)

pub returns : goal.returns
returns g c =
    let f = packet c.args.me (Prepare c.args.ballot c.args.first) in
    let counted = is_counted (promises_of (role_in c.args.proposer.now)) in
    record {
      ok = sent_all c.loop-other.packets.items (map f (filter (λ k. not (counted k)) (drop c.loop-other.other-index c.args.others.now)))
          (c.args.packets.now.items ++ map f (filter (λ k. not (counted k)) c.args.others.now)) c.loop-other.invariant
          (at_drop_all (λ (ks : List ℕ). map f (filter (λ k. not (counted k)) ks)) c.args.others.now c.loop-other.other-index
          c.loop-other-test.false);
    }
