use Rattle.std.proofs.Common.{◌≡◌, arith}
use Rattle.std.proofs.lemmas.List.Elements.{All-head, All-tail}
use Rattle.actor_outboxes.specs.Outboxes.{most_waiting}
use Rattle.actor_outboxes.proofs.Dues.{back_more, room_first}
use Rattle.actor_outboxes.proofs.outboxes.Outboxes.put_back_all.Goals as goal

pub put_back_each-requires-clause-addressed : goal.put_back_each-requires-clause-addressed
put_back_each-requires-clause-addressed g c =
    All-tail (λ p. p.addressee ≡ c.args.peer) c.args.first c.args.rest.items c.requires.addressed

pub put_back_each-requires-clause-room : goal.put_back_each-requires-clause-room
put_back_each-requires-clause-room g c = let room = c.requires.room in omega (arith, room)

pub put_back-requires-clause-peer : goal.put_back-requires-clause-peer
put_back-requires-clause-peer g c =
    let to = All-head (λ p. p.addressee ≡ c.args.peer) c.args.first c.args.rest.items c.requires.addressed in
    rw (c.put_back_each.ensures.me, c.put_back_each.ensures.members, to) c.requires.peer

pub put_back-requires-clause-room : goal.put_back-requires-clause-room
put_back-requires-clause-room g c =
    let to = All-head (λ p. p.addressee ≡ c.args.peer) c.args.first c.args.rest.items c.requires.addressed in
    rw to (room_first c.args.peer most_waiting c.args.rest.items c.args.self.now c.put_back_each.new.self c.put_back_each.ensures.first
    c.requires.room)

pub returns-clause-first : goal.returns-clause-first
returns-clause-first g c =
    let to = All-head (λ p. p.addressee ≡ c.args.peer) c.args.first c.args.rest.items c.requires.addressed in
    back_more c.args.peer c.args.rest.items c.args.first c.args.self.now c.put_back_each.new.self c.put_back.new.self to
    c.put_back_each.ensures.first c.put_back.ensures.first
