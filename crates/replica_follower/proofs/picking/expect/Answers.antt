use Rattle.std.proofs.Common.{◌≡◌, sym, ap, ◌∙◌, subst, suc, ◌+◌, ◌∷◌, arith, cond, length, drop}
use Rattle.std.proofs.Math.Seq.{drop-cons}
use Rattle.paxos_packets.specs.Transport.{same_transport}
use Rattle.replica_follower.specs.Handed.{room_in}
use Rattle.replica_follower.specs.Following.{said_to}
use Rattle.replica_follower.proofs.Sayings.{more_one}
use Rattle.replica_follower.proofs.picking.expect.Goals as goal

pub loop-say-preserved : goal.loop-say-preserved
loop-say-preserved g c =
    let so_far = c.loop-say.invariant in
    let to = g.M.Machine.steps.to in
    let says = c.args.says.now in
    let index = c.loop-say.say-index in
    let say = c.say-item.result in
    let old = c.loop-say.handed in
    let new = c.expect.new.self in
    let next : suc index ≡ index + 1 = omega arith in
    let rest : drop index says ≡ say ∷ drop (index + 1) says =
    drop-cons says index say (omega arith)
    ∙ ap (λ y. y ∷ drop (suc index) says) (sym c.say-item.is)
    ∙ ap (λ k. say ∷ drop k says) next in (
      λ t. c.expect.ensures.said t ∙ so_far.0 t,
      λ t. more_one (same_transport (to say) t) (room_in t old) (room_in t new)
          (room_in t c.args.handed.now + length (said_to to t says)) say (said_to to t (drop (index + 1) says))
          (subst (λ u. room_in t new ≡ room_in t old + cond (same_transport u t) 1 0) c.to.ensures (c.in_ok-expect.ensures.room t))
          (ap (λ ys. room_in t old + length (said_to to t ys)) (sym rest) ∙ so_far.1 t),
    )
