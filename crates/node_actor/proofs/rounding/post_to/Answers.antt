use Rattle.std.proofs.Common.{◌≡◌, ◌<◌, ◌≤◌, ◌∙◌, ◌∷◌, ℕ, List, length, ap, arith, refl, rules, sym, subst}
use Rattle.std.specs.Prelude.{All}
use Rattle.std.proofs.lemmas.List.{nil_from_length}
use Rattle.paxos_packets.specs.declared.packet.Packet.{Packet}
use Rattle.actor_outboxes.specs.Outboxes.{IsPeer, ManyTaken, waiting}
use Rattle.actor_parts.proofs.Carrying.{sound_still}
use Rattle.mail_table.specs.Seats.{Seated, knows}
use Rattle.mail_table.specs.Views.{posting_all, lost}
use Rattle.node_actor.specs.Actor.{acting, IsSeated}
use Rattle.node_actor.proofs.Batching.{back_sent, each_sent, each_to, first_of, lost_as, posted_as, posts_all, posts_full, posts_no_more, posts_none_of}
use Rattle.node_actor.proofs.Batching.{posts_nothing, rest_sent}
use Rattle.node_actor.proofs.Tries.{only_none, only_on, peer_there, post_box, seated_beside}
use Rattle.node_actor.proofs.rounding.post_to.Goals as goal

pub returns-then-waiting_for-eq0-clause-posts : goal.returns-then-waiting_for-eq0-clause-posts
returns-then-waiting_for-eq0-clause-posts g c =
    let none : length (waiting c.args.peer c.args.parts.now.waiting) ≡ 0 = search rules in
    posts_nothing c.args.peer c.args.parts.now c.args.parts.now c.args.seat.now refl (nil_from_length _ none)

pub returns-then-not-is_free-clause-seated : goal.returns-then-not-is_free-clause-seated
returns-then-not-is_free-clause-seated g c =
    let is : c.is_free.new.seat ≡ knows (lost (post_box c.args.seat.now c.args.peer) c.args.seat.now.part) c.args.seat.now = search rules in
    seated_beside g.M.Body.Body.same c.args.parts.now c.args.parts.now c.args.seat.now c.is_free.new.seat
    (c.requires.sound.serves c.requires.serving).committed (only_none c.args.parts.now c.args.parts.now refl)
    (ap (λ (z : Seated g.row.M-Body.Denot). z.members) is) (ap (λ (z : Seated g.row.M-Body.Denot). z.part.me) is)
    (ap (λ (z : Seated g.row.M-Body.Denot). z.part.seen) is) c.requires.seated.waits c.requires.seated

pub returns-then-not-is_free-clause-posts : goal.returns-then-not-is_free-clause-posts
returns-then-not-is_free-clause-posts g c =
    let is : c.is_free.new.seat ≡ knows (lost (post_box c.args.seat.now c.args.peer) c.args.seat.now.part) c.args.seat.now = search rules in
    let some : 0 < length (waiting c.args.peer c.args.parts.now.waiting) = search rules in
    let first = first_of (waiting c.args.peer c.args.parts.now.waiting) (λ none. let e = ap length none in omega (arith, e, some)) in
    posts_full g.M.Body.Body.same c.args.peer c.args.parts.now c.args.seat.now c.requires.seated c.requires.sound.member c.requires.member
    first.0 first.1 first.2 c.is_free.new.seat is

pub post_all-requires-clause-sent : goal.post_all-requires-clause-sent
post_all-requires-clause-sent g c =
    let seat : c.is_free.new.seat ≡ c.args.seat.now = search rules in
    let taken : ManyTaken c.args.peer c.most.result (c.in-Some.first ∷ c.in-Some.rest.items) c.args.parts.now.waiting c.take_many.new.self.waiting =
    c.in-Some.ensures.some in
    let peer = peer_there _ _ _ c.args.parts.now c.args.peer c.requires.sound taken.peer in
    rw (c.from_parts.ensures, seat) (each_sent g.M.Body.Body.same c.args.peer c.most.result (c.in-Some.first ∷ c.in-Some.rest.items)
    c.args.seat.now.part.seen.sent c.args.parts.now c.take_many.new.self taken (c.requires.seated.waits c.args.peer peer))

pub post_all-requires-clause-addressed : goal.post_all-requires-clause-addressed
post_all-requires-clause-addressed g c =
    let taken : ManyTaken c.args.peer c.most.result (c.in-Some.first ∷ c.in-Some.rest.items) c.args.parts.now.waiting c.take_many.new.self.waiting =
    c.in-Some.ensures.some in
    let peer = peer_there _ _ _ c.args.parts.now c.args.peer c.requires.sound taken.peer in
    rw c.from_parts.ensures (each_to g.M.Body.Body.same c.args.peer c.most.result (c.in-Some.first ∷ c.in-Some.rest.items)
    c.args.seat.now.part.seen.sent c.args.parts.now c.take_many.new.self taken (c.requires.seated.waits c.args.peer peer))

pub post_all-requires-clause-short : goal.post_all-requires-clause-short
post_all-requires-clause-short g c =
    let taken : ManyTaken c.args.peer c.most.result (c.in-Some.first ∷ c.in-Some.rest.items) c.args.parts.now.waiting c.take_many.new.self.waiting =
    c.in-Some.ensures.some in
    let peer = peer_there _ _ _ c.args.parts.now c.args.peer c.requires.sound taken.peer in
    subst (λ (b : List (Packet g.row.M-Body.Denot)). length b ≤ c.args.mail.now.most) (sym c.from_parts.ensures)
    (subst (λ n. length (c.in-Some.first ∷ c.in-Some.rest.items) ≤ n) c.most.ensures.value taken.short)

pub returns-in_default-clause-seated : goal.returns-in_default-clause-seated
returns-in_default-clause-seated g c =
    let still : c.is_free.new.seat ≡ c.args.seat.now = search rules in
    let none = c.in_default.ensures.none in
    subst (λ z. IsSeated g.M.Body.Body.same (acting c.take_many.new.self z)) (sym still)
    (subst (λ z. IsSeated g.M.Body.Body.same (acting z c.args.seat.now)) (sym none.0) c.requires.seated)

pub returns-in_default-clause-posts : goal.returns-in_default-clause-posts
returns-in_default-clause-posts g c =
    let still : c.is_free.new.seat ≡ c.args.seat.now = search rules in
    let none = c.in_default.ensures.none in
    posts_no_more c.args.peer c.args.parts.now c.take_many.new.self c.args.seat.now c.is_free.new.seat none.0 still none.1

pub returns-in_default-post_all-clause-seated : goal.returns-in_default-post_all-clause-seated
returns-in_default-post_all-clause-seated g c =
    let still : c.is_free.new.seat ≡ c.args.seat.now = search rules in
    let taken : ManyTaken c.args.peer c.most.result (c.in-Some.first ∷ c.in-Some.rest.items) c.args.parts.now.waiting c.take_many.new.self.waiting =
    c.in-Some.ensures.some in
    let peer = peer_there _ _ _ c.args.parts.now c.args.peer c.requires.sound taken.peer in
    let is : c.post_all.new.seat ≡ knows (posting_all (post_box c.args.seat.now c.args.peer) (c.in-Some.first ∷ c.in-Some.rest.items)
    c.args.seat.now.part) c.args.seat.now =
    posted_as c.args.peer c.from_parts.result (c.in-Some.first ∷ c.in-Some.rest.items) c.args.seat.now c.is_free.new.seat c.post_all.new.seat still
    c.from_parts.ensures c.in_default-post_all.ensures.posted in
    seated_beside g.M.Body.Body.same c.args.parts.now c.take_many.new.self c.args.seat.now c.post_all.new.seat
    (c.requires.sound.serves c.requires.serving).committed c.take_many.ensures.rest (ap (λ (z : Seated g.row.M-Body.Denot). z.members) is)
    (ap (λ (z : Seated g.row.M-Body.Denot). z.part.me) is) (ap (λ (z : Seated g.row.M-Body.Denot). z.part.seen) is)
    (λ k other. rest_sent g.M.Body.Body.same c.args.peer c.most.result (c.in-Some.first ∷ c.in-Some.rest.items) c.args.seat.now.part.seen.sent
    c.args.parts.now c.take_many.new.self taken (c.requires.seated.waits c.args.peer peer) k (c.requires.seated.waits k other)) c.requires.seated

pub returns-in_default-post_all-clause-posts : goal.returns-in_default-post_all-clause-posts
returns-in_default-post_all-clause-posts g c =
    let still : c.is_free.new.seat ≡ c.args.seat.now = search rules in
    let taken : ManyTaken c.args.peer c.most.result (c.in-Some.first ∷ c.in-Some.rest.items) c.args.parts.now.waiting c.take_many.new.self.waiting =
    c.in-Some.ensures.some in
    let peer = peer_there _ _ _ c.args.parts.now c.args.peer c.requires.sound taken.peer in
    let is : c.post_all.new.seat ≡ knows (posting_all (post_box c.args.seat.now c.args.peer) (c.in-Some.first ∷ c.in-Some.rest.items)
    c.args.seat.now.part) c.args.seat.now =
    posted_as c.args.peer c.from_parts.result (c.in-Some.first ∷ c.in-Some.rest.items) c.args.seat.now c.is_free.new.seat c.post_all.new.seat still
    c.from_parts.ensures c.in_default-post_all.ensures.posted in
    posts_all g.M.Body.Body.same c.args.peer c.args.parts.now c.args.seat.now c.requires.seated c.requires.sound.member c.requires.member
    c.most.result (c.in-Some.first ∷ c.in-Some.rest.items) c.in-Some.first c.in-Some.rest.items refl c.take_many.new.self
    c.take_many.ensures.rest taken c.post_all.new.seat peer is

pub put_back_all-requires-clause-peer : goal.put_back_all-requires-clause-peer
put_back_all-requires-clause-peer g c =
    let taken : ManyTaken c.args.peer c.most.result (c.in-Some.first ∷ c.in-Some.rest.items) c.args.parts.now.waiting c.take_many.new.self.waiting =
    c.in-Some.ensures.some in
    let peer = peer_there _ _ _ c.args.parts.now c.args.peer c.requires.sound taken.peer in
    let only = c.take_many.ensures.rest in
    subst (λ (z : ℕ × ℕ). IsPeer z.0 z.1 c.args.peer) (λ i. (sym only.me i, sym only.members i)) taken.peer

pub put_back_all-requires-clause-addressed : goal.put_back_all-requires-clause-addressed
put_back_all-requires-clause-addressed g c =
    let taken : ManyTaken c.args.peer c.most.result (c.in-Some.first ∷ c.in-Some.rest.items) c.args.parts.now.waiting c.take_many.new.self.waiting =
    c.in-Some.ensures.some in
    let peer = peer_there _ _ _ c.args.parts.now c.args.peer c.requires.sound taken.peer in
    let still : c.is_free.new.seat ≡ c.args.seat.now = search rules in
    let is : c.post_all.new.seat ≡ knows (lost (post_box c.args.seat.now c.args.peer) c.args.seat.now.part) c.args.seat.now =
    lost_as c.args.peer c.args.seat.now c.is_free.new.seat c.post_all.new.seat still c.in-Err.ensures.posted.1 in
    let again : c.into_parts-first.result.0 ∷ c.into_parts-first.result.1.items ≡ c.in-Some.first ∷ c.in-Some.rest.items =
    sym c.into_parts-first.ensures ∙ c.in-Err.ensures.posted.0 ∙ c.from_parts.ensures in
    subst (λ (ps : List (Packet g.row.M-Body.Denot)). All (λ p. p.addressee ≡ c.args.peer) ps) (sym again) taken.addressed

pub put_back_all-requires-clause-room : goal.put_back_all-requires-clause-room
put_back_all-requires-clause-room g c =
    let taken : ManyTaken c.args.peer c.most.result (c.in-Some.first ∷ c.in-Some.rest.items) c.args.parts.now.waiting c.take_many.new.self.waiting =
    c.in-Some.ensures.some in
    let peer = peer_there _ _ _ c.args.parts.now c.args.peer c.requires.sound taken.peer in
    let still : c.is_free.new.seat ≡ c.args.seat.now = search rules in
    let is : c.post_all.new.seat ≡ knows (lost (post_box c.args.seat.now c.args.peer) c.args.seat.now.part) c.args.seat.now =
    lost_as c.args.peer c.args.seat.now c.is_free.new.seat c.post_all.new.seat still c.in-Err.ensures.posted.1 in
    let again : c.into_parts-first.result.0 ∷ c.into_parts-first.result.1.items ≡ c.in-Some.first ∷ c.in-Some.rest.items =
    sym c.into_parts-first.ensures ∙ c.in-Err.ensures.posted.0 ∙ c.from_parts.ensures in
    let size = ap length again in
    let room = taken.room in
    omega (arith, size, room)

pub returns-clause-seated : goal.returns-clause-seated
returns-clause-seated g c =
    let still : c.is_free.new.seat ≡ c.args.seat.now = search rules in
    let taken : ManyTaken c.args.peer c.most.result (c.in-Some.first ∷ c.in-Some.rest.items) c.args.parts.now.waiting c.take_many.new.self.waiting =
    c.in-Some.ensures.some in
    let peer = peer_there _ _ _ c.args.parts.now c.args.peer c.requires.sound taken.peer in
    let is : c.post_all.new.seat ≡ knows (lost (post_box c.args.seat.now c.args.peer) c.args.seat.now.part) c.args.seat.now =
    lost_as c.args.peer c.args.seat.now c.is_free.new.seat c.post_all.new.seat still c.in-Err.ensures.posted.1 in
    let again : c.into_parts-first.result.0 ∷ c.into_parts-first.result.1.items ≡ c.in-Some.first ∷ c.in-Some.rest.items =
    sym c.into_parts-first.ensures ∙ c.in-Err.ensures.posted.0 ∙ c.from_parts.ensures in
    seated_beside g.M.Body.Body.same c.args.parts.now c.put_back_all.new.self c.args.seat.now c.post_all.new.seat
    (c.requires.sound.serves c.requires.serving).committed
    (only_on c.args.parts.now c.take_many.new.self c.put_back_all.new.self c.take_many.ensures.rest c.put_back_all.ensures.rest) (ap (λ (z : Seated g.row.M-Body.Denot). z.members) is)
    (ap (λ (z : Seated g.row.M-Body.Denot). z.part.me) is) (ap (λ (z : Seated g.row.M-Body.Denot). z.part.seen) is)
    (λ k other. back_sent g.M.Body.Body.same c.args.peer c.most.result (c.in-Some.first ∷ c.in-Some.rest.items) c.args.seat.now.part.seen.sent
    c.args.parts.now c.take_many.new.self taken (c.requires.seated.waits c.args.peer peer)
    (c.into_parts-first.result.0 ∷ c.into_parts-first.result.1.items) c.put_back_all.new.self again c.put_back_all.ensures.first k
    (c.requires.seated.waits k other)) c.requires.seated

pub returns-clause-posts : goal.returns-clause-posts
returns-clause-posts g c =
    let still : c.is_free.new.seat ≡ c.args.seat.now = search rules in
    let taken : ManyTaken c.args.peer c.most.result (c.in-Some.first ∷ c.in-Some.rest.items) c.args.parts.now.waiting c.take_many.new.self.waiting =
    c.in-Some.ensures.some in
    let peer = peer_there _ _ _ c.args.parts.now c.args.peer c.requires.sound taken.peer in
    let is : c.post_all.new.seat ≡ knows (lost (post_box c.args.seat.now c.args.peer) c.args.seat.now.part) c.args.seat.now =
    lost_as c.args.peer c.args.seat.now c.is_free.new.seat c.post_all.new.seat still c.in-Err.ensures.posted.1 in
    let again : c.into_parts-first.result.0 ∷ c.into_parts-first.result.1.items ≡ c.in-Some.first ∷ c.in-Some.rest.items =
    sym c.into_parts-first.ensures ∙ c.in-Err.ensures.posted.0 ∙ c.from_parts.ensures in
    posts_none_of g.M.Body.Body.same c.args.peer c.args.parts.now c.args.seat.now c.requires.seated c.requires.sound.member c.requires.member
    c.most.result (c.in-Some.first ∷ c.in-Some.rest.items) c.in-Some.first c.in-Some.rest.items refl c.take_many.new.self
    c.take_many.ensures.rest taken (c.into_parts-first.result.0 ∷ c.into_parts-first.result.1.items) again c.put_back_all.new.self
    c.put_back_all.ensures.rest c.put_back_all.ensures.first c.post_all.new.seat is

pub returns-in_default-post_all-clause-sound : goal.returns-in_default-post_all-clause-sound
returns-in_default-post_all-clause-sound g c = sound_still _ _ _ c.args.parts.now c.take_many.new.self c.take_many.ensures.rest c.requires.sound

pub returns-clause-sound : goal.returns-clause-sound
returns-clause-sound g c =
    sound_still _ _ _ c.args.parts.now c.put_back_all.new.self
    (only_on c.args.parts.now c.take_many.new.self c.put_back_all.new.self c.take_many.ensures.rest c.put_back_all.ensures.rest) c.requires.sound
