use Rattle.std.proofs.Common.{◌≡◌, ◌<◌, ◌≤◌, ◌+◌, suc, arith, subst, ◌∙◌}
use Rattle.node_actor.specs.Actor.{acting}
use Rattle.node_actor.proofs.Batching.{EachBelow, each_next, each_all}
use Rattle.node_actor.proofs.Tries.{Notes, notes_of}
use Rattle.node_actor.proofs.rounding.post_waiting.Goals as goal

pub loop-peer-preserved : goal.loop-peer-preserved
loop-peer-preserved g c =
    let was = c.loop-peer.invariant in
    let next : suc c.loop-peer.peer ≡ c.loop-peer.peer + 1 = omega arith in
    let small : c.loop-peer.peer < 8 = omega (arith, c.loop-peer-test.true, c.count-peer-end.ensures.value, c.count-peer-end.ensures.most) in
    let here : c.loop-peer.peer ≤ c.loop-peer.peer = omega arith in
    let notes : Notes c.loop-peer.peer c.post_to-won.result c.loop-peer.posted c.note_post.new.set =
    notes_of c.loop-peer.peer c.post_to-won.result c.loop-peer.posted c.note_post.new.set small (was.0.above c.loop-peer.peer here)
    c.note_post.ensures.won c.note_post.ensures.lost in (
      subst (λ n. EachBelow n c.note_post.new.set (acting c.args.parts.now c.args.seat.now)
          (acting c.post_to-won.new.parts c.post_to-won.new.seat) c.args.seat.now c.post_to-won.new.seat) next
          (each_next c.loop-peer.peer c.post_to-won.result c.loop-peer.posted c.note_post.new.set c.args.parts.now c.loop-peer.parts
          c.post_to-won.new.parts c.args.seat.now c.loop-peer.seat c.post_to-won.new.seat was.0 c.post_to-won.ensures.posts notes),
      c.post_to-won.ensures.sound,
      c.post_to-won.ensures.seated,
      c.post_to-won.ensures.owned,
      c.post_to-won.ensures.posts.beside.only.spoiled ∙ was.4,
    )

pub returns-clause-posts : goal.returns-clause-posts
returns-clause-posts g c =
    let over : c.args.parts.now.node.members < c.loop-peer.peer =
    omega (arith, c.loop-peer-test.false, c.count-peer-end.ensures.value, c.members.ensures, c.requires.sound.members) in
    each_all c.loop-peer.peer c.loop-peer.posted c.args.parts.now c.loop-peer.parts c.args.seat.now c.loop-peer.seat over c.loop-peer.invariant.0
