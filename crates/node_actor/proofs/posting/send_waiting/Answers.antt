use Rattle.std.proofs.Common.{◌≡◌, ◌<◌, ◌≤◌, ◌+◌, suc, arith, subst, ◌∙◌}
use Rattle.node_actor.specs.Actor.{acting}
use Rattle.node_actor.proofs.Tries.{PostsBelow, Notes, notes_of, below_next, below_all}
use Rattle.node_actor.proofs.posting.send_waiting.Goals as goal

pub loop-peer-preserved : goal.loop-peer-preserved
loop-peer-preserved g c =
    let was = c.loop-peer.invariant in
    let next : suc c.loop-peer.peer ≡ c.loop-peer.peer + 1 = omega arith in
    let small : c.loop-peer.peer < 8 = omega (arith, c.loop-peer-test.true, c.count-peer-end.ensures.value, c.count-peer-end.ensures.most) in
    let here : c.loop-peer.peer ≤ c.loop-peer.peer = omega arith in
    let notes : Notes c.loop-peer.peer c.post_one-won.result c.loop-peer.posted c.note_post.new.set =
    notes_of c.loop-peer.peer c.post_one-won.result c.loop-peer.posted c.note_post.new.set small (was.0.above c.loop-peer.peer here)
    c.note_post.ensures.won c.note_post.ensures.lost in (
      subst (λ n. PostsBelow n c.note_post.new.set (acting c.args.parts.now c.args.seat.now)
          (acting c.post_one-won.new.parts c.post_one-won.new.seat) c.args.seat.now c.post_one-won.new.seat) next
          (below_next c.loop-peer.peer c.post_one-won.result c.loop-peer.posted c.note_post.new.set c.args.parts.now c.loop-peer.parts
          c.post_one-won.new.parts c.args.seat.now c.loop-peer.seat c.post_one-won.new.seat was.0 c.post_one-won.ensures.posts notes),
      c.post_one-won.ensures.sound,
      c.post_one-won.ensures.seated,
      c.post_one-won.ensures.owned,
      c.post_one-won.ensures.posts.beside.only.spoiled ∙ was.4,
    )

pub returns-clause-posts : goal.returns-clause-posts
returns-clause-posts g c =
    let over : c.args.parts.now.node.members < c.loop-peer.peer =
    omega (arith, c.loop-peer-test.false, c.count-peer-end.ensures.value, c.members.ensures, c.requires.sound.members) in
    below_all c.loop-peer.peer c.loop-peer.posted c.args.parts.now c.loop-peer.parts c.args.seat.now c.loop-peer.seat over c.loop-peer.invariant.0
