use Rattle.std.proofs.Common.{◌≡◌, List, sym, ap, subst}
use Rattle.std.specs.Prelude.{All, Contains}
use Rattle.paxos_packets.specs.declared.packet.Packet.{Packet}
use Rattle.actor_outboxes.specs.Outboxes.{TakenFor}
use Rattle.mail_table.specs.Seats.{Seated, knows}
use Rattle.mail_table.specs.Views.{posting, lost}
use Rattle.node_actor.proofs.Tries.{post_box, only_on, peer_there, posts_won}
use Rattle.node_actor.proofs.Tries.{posts_lost, all_again, seated_beside, sent_rest, first_sent}
use Rattle.node_actor.proofs.posting.post_one.Goals as goal

pub post-requires-clause-sent : goal.post-requires-clause-sent
post-requires-clause-sent g c =
    let taken : TakenFor c.args.peer c.in-Some.packet c.args.parts.now.waiting c.take_for.new.self.waiting = c.in-Some.ensures.some in
    let peer = peer_there _ _ _ c.args.parts.now c.args.peer c.requires.sound taken.peer in
    first_sent g.M.Body.Body.same c.args.peer c.in-Some.packet c.args.seat.now.part.seen.sent c.args.parts.now c.take_for.new.self taken
    (c.requires.seated.waits c.args.peer peer)

pub returns-in_default-post-clause-seated : goal.returns-in_default-post-clause-seated
returns-in_default-post-clause-seated g c =
    let taken : TakenFor c.args.peer c.in-Some.packet c.args.parts.now.waiting c.take_for.new.self.waiting = c.in-Some.ensures.some in
    let peer = peer_there _ _ _ c.args.parts.now c.args.peer c.requires.sound taken.peer in
    let is : c.post.new.seat ≡ knows (posting (post_box c.args.seat.now c.args.peer) c.in-Some.packet c.args.seat.now.part) c.args.seat.now
    =
    c.in_default-post.ensures.posted in
    seated_beside g.M.Body.Body.same c.args.parts.now c.take_for.new.self c.args.seat.now c.post.new.seat
    (c.requires.sound.serves c.requires.serving).committed
    c.take_for.ensures.rest (ap (λ (z : Seated g.row.M-Body.Denot). z.members) is) (ap (λ (z : Seated g.row.M-Body.Denot). z.part.me) is)
    (ap (λ (z : Seated g.row.M-Body.Denot). z.part.seen) is)
    (λ k other. sent_rest g.M.Body.Body.same c.args.peer c.in-Some.packet c.args.seat.now.part.seen.sent c.args.parts.now
    c.take_for.new.self taken
    (c.requires.seated.waits c.args.peer peer) k (c.requires.seated.waits k other)) c.requires.seated

pub returns-in_default-post-clause-posts : goal.returns-in_default-post-clause-posts
returns-in_default-post-clause-posts g c =
    let taken : TakenFor c.args.peer c.in-Some.packet c.args.parts.now.waiting c.take_for.new.self.waiting = c.in-Some.ensures.some in
    let is : c.post.new.seat ≡ knows (posting (post_box c.args.seat.now c.args.peer) c.in-Some.packet c.args.seat.now.part) c.args.seat.now
    =
    c.in_default-post.ensures.posted in
    let peer = peer_there _ _ _ c.args.parts.now c.args.peer c.requires.sound taken.peer in
    posts_won g.M.Body.Body.same c.args.peer c.in-Some.packet c.args.parts.now c.take_for.new.self c.args.seat.now c.requires.seated
    c.requires.sound.member
    c.requires.member c.take_for.ensures.rest taken c.post.new.seat peer is

pub returns-clause-seated : goal.returns-clause-seated
returns-clause-seated g c =
    let taken : TakenFor c.args.peer c.in-Some.packet c.args.parts.now.waiting c.take_for.new.self.waiting = c.in-Some.ensures.some in
    let is : c.post.new.seat ≡ knows (lost (post_box c.args.seat.now c.args.peer) c.args.seat.now.part) c.args.seat.now =
    c.in-Err.ensures.posted.1 in
    let again = all_again g.M.Body.Body.same c.args.peer c.in-Some.packet c.args.parts.now c.take_for.new.self c.args.seat.now
    c.requires.seated
    c.requires.sound.member c.requires.member c.take_for.ensures.rest taken c.in-Err.packet c.in-Err.ensures.posted.0 c.put_back.new.self
    c.put_back.ensures.rest c.put_back.ensures.first in
    seated_beside g.M.Body.Body.same c.args.parts.now c.put_back.new.self c.args.seat.now c.post.new.seat
    (c.requires.sound.serves c.requires.serving).committed
    (only_on c.args.parts.now c.take_for.new.self c.put_back.new.self c.take_for.ensures.rest c.put_back.ensures.rest)
    (ap (λ (z : Seated g.row.M-Body.Denot). z.members) is) (ap (λ (z : Seated g.row.M-Body.Denot). z.part.me) is)
    (ap (λ (z : Seated g.row.M-Body.Denot). z.part.seen) is)
    (λ k other. subst (λ (ps : List (Packet g.row.M-Body.Denot)). All (Contains c.args.seat.now.part.seen.sent) ps) (sym (again k))
    (c.requires.seated.waits k other)) c.requires.seated

pub returns-clause-posts : goal.returns-clause-posts
returns-clause-posts g c =
    let taken : TakenFor c.args.peer c.in-Some.packet c.args.parts.now.waiting c.take_for.new.self.waiting = c.in-Some.ensures.some in
    let is : c.post.new.seat ≡ knows (lost (post_box c.args.seat.now c.args.peer) c.args.seat.now.part) c.args.seat.now =
    c.in-Err.ensures.posted.1 in
    posts_lost g.M.Body.Body.same c.args.peer c.in-Some.packet c.args.parts.now c.take_for.new.self c.args.seat.now c.requires.seated
    c.requires.sound.member
    c.requires.member c.take_for.ensures.rest taken c.in-Err.packet c.in-Err.ensures.posted.0 c.put_back.new.self c.put_back.ensures.rest
    c.put_back.ensures.first c.post.new.seat is
