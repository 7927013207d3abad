use Rattle.std.proofs.Common.{◌≡◌, ◌∷◌, ◌++◌, [], ◌∙◌, length, refl, rules, sym, ap, subst}
use Rattle.std.specs.Prelude.{All}
use Rattle.std.proofs.lemmas.List.{append-nil, append_assoc, nil_from_length}
use Rattle.actor_outboxes.specs.Outboxes.{most_waiting, WaitFirst}
use Rattle.actor_outboxes.proofs.Dues.{none_back, back_more, last_to, room_back}
use Rattle.actor_outboxes.proofs.outboxes.Outboxes.put_back_each.Goals as goal

pub loop-packet-init : goal.loop-packet-init
loop-packet-init g c = (refl, refl, ([], sym (append-nil c.args.packets.items), none_back c.args.peer c.args.self.now))

pub put_back-requires-clause-peer : goal.put_back-requires-clause-peer
put_back-requires-clause-peer g c =
    let was = c.loop-packet.invariant in
    let p = c.in-Some.packet in
    let left = c.pop.new.self.items in
    let all = was.2.1 ∙ ap (λ xs. xs ++ was.2.0) c.in-Some.ensures.items ∙ append_assoc left (p ∷ []) was.2.0 in
    let to = last_to c.args.peer left was.2.0 p (subst (All (λ q. q.addressee ≡ c.args.peer)) all c.requires.addressed) in
    rw (was.0, was.1, to) c.requires.peer

pub put_back-requires-clause-room : goal.put_back-requires-clause-room
put_back-requires-clause-room g c =
    let was = c.loop-packet.invariant in
    let p = c.in-Some.packet in
    let left = c.pop.new.self.items in
    let all = was.2.1 ∙ ap (λ xs. xs ++ was.2.0) c.in-Some.ensures.items ∙ append_assoc left (p ∷ []) was.2.0 in
    let to = last_to c.args.peer left was.2.0 p (subst (All (λ q. q.addressee ≡ c.args.peer)) all c.requires.addressed) in
    rw to (room_back c.args.peer most_waiting c.args.packets.items left was.2.0 p c.args.self.now c.loop-packet.self all was.2.2 c.requires.room)

pub loop-packet-preserved : goal.loop-packet-preserved
loop-packet-preserved g c =
    let was = c.loop-packet.invariant in
    let p = c.in-Some.packet in
    let left = c.pop.new.self.items in
    let all = was.2.1 ∙ ap (λ xs. xs ++ was.2.0) c.in-Some.ensures.items ∙ append_assoc left (p ∷ []) was.2.0 in
    let to = last_to c.args.peer left was.2.0 p (subst (All (λ q. q.addressee ≡ c.args.peer)) all c.requires.addressed) in (
      c.put_back.ensures.me ∙ was.0,
      c.put_back.ensures.members ∙ was.1,
      (p ∷ was.2.0, all, back_more c.args.peer was.2.0 p c.args.self.now c.loop-packet.self c.put_back.new.self to was.2.2 c.put_back.ensures.first),
    )

pub returns-clause-first : goal.returns-clause-first
returns-clause-first g c =
    let was = c.loop-packet.invariant in
    let gone : length c.loop-packet.packets.items ≡ 0 = search rules in
    let all = was.2.1 ∙ ap (λ xs. xs ++ was.2.0) (nil_from_length c.loop-packet.packets.items gone) in
    subst (λ ps. WaitFirst c.args.peer ps c.args.self.now c.loop-packet.self) (sym all) was.2.2
