use Rattle.std.proofs.Common.{◌∙◌, ap, sym}
use Rattle.paxos_learner.specs.Learner.{Held, has_room_at}
use Rattle.paxos_learner.proofs.Keeping.{places_with}
use Rattle.paxos_learner.proofs.room.make_room_for.Goals as goal

pub loop-one-preserved : goal.loop-one-preserved
loop-one-preserved g c =
    let now : Held g.row.B.Denot = c.make_room_at.new.self in (
      c.in_ok-make_room_at.ensures.state ∙ c.loop-one.invariant.0,
      λ later kept rest. c.loop-one.invariant.1 later (λ slot had. kept slot (c.in_ok-make_room_at.ensures.places slot had))
          (places_with c.args.news.now c.loop-one.one-index c.one-item.result now later c.loop-one-test.true c.one-item.is
          (ap (λ slot. has_room_at slot now) (sym c.slot_of.ensures) ∙ c.in_ok-make_room_at.ensures.ok) kept rest),
    )
