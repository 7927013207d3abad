use Rattle.std.proofs.Common.{◌≡◌, [], ◌∷◌, ◌++◌, map, ap, sym, ◌∙◌, rules}
use Rattle.std.proofs.lemmas.List.{nil_from_length}
use Rattle.std.specs.Vec.Iter.{into_iter_items}
use Rattle.paxos_planning.specs.Drafting.{told_to}
use Rattle.paxos_planning.proofs.Sending.{sent_on, sent_all}
use Rattle.paxos_planning.proofs.replies.put_told.Goals as goal

pub loop-one-preserved : goal.loop-one-preserved
loop-one-preserved g c =
    let step : into_iter_items c.loop-one.one-iterator ≡ c.in-Some.one ∷ into_iter_items c.next.new.self = search rules in
    sent_on c.loop-one.packets.items (map (told_to c.args.me c.args.to) (into_iter_items c.loop-one.one-iterator))
    (c.args.packets.now.items ++ map (told_to c.args.me c.args.to) c.args.told.items) c.loop-one.invariant
    c.put_one.new.packets.items (told_to c.args.me c.args.to c.in-Some.one ∷ []) (map (told_to c.args.me c.args.to) (into_iter_items c.next.new.self))
    c.in_ok-put_one.ensures.ok (ap (λ l. map (told_to c.args.me c.args.to) l) step)

pub returns : goal.returns
returns g c = record {
  ok = sent_all c.loop-one.packets.items (map (told_to c.args.me c.args.to) (into_iter_items c.loop-one.one-iterator))
      (c.args.packets.now.items ++ map (told_to c.args.me c.args.to) c.args.told.items) c.loop-one.invariant
      (ap (λ l. map (told_to c.args.me c.args.to) l)
      (nil_from_length (into_iter_items c.loop-one.one-iterator) (sym c.loop-one.one-iterator.rest.ok.0 ∙ c.in-None.ensures.steps.0)));
}
