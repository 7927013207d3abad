use Rattle.std.proofs.Common.{◌≡◌, suc, ◌+◌, ◌≤◌, List, [], ◌∷◌, length, ap, subst, sym, ◌∙◌, arith}
use Rattle.std.proofs.lemmas.List.{nil_from_length}
use Rattle.std.specs.Vec.Iter.{into_iter_items}
use Rattle.paxos_learner.specs.declared.hearing.News.{News}
use Rattle.paxos_learner.specs.Hearing.{hear_all, HasRoomFor}
use Rattle.paxos_learner.specs.Learner.{State}
use Rattle.paxos_learner.proofs.Keeping.{kept_places, next_vote, next_place}
use Rattle.paxos_learner.proofs.room.hear_in_room.Goals as goal

pub loop-one-preserved : goal.loop-one-preserved
loop-one-preserved g c =
    let rest : List (News g.row.B.Denot) = into_iter_items c.next.new.self in
    let step : into_iter_items c.loop-one.one-iterator ≡ c.in-Some.one ∷ rest = c.in-Some.ensures.steps.0 in
    let room : HasRoomFor (c.in-Some.one ∷ rest) c.loop-one.learner =
    subst (λ (ns : List (News g.row.B.Denot)). HasRoomFor ns c.loop-one.learner) step c.loop-one.invariant.1 in
    let heard : hear_all (c.in-Some.one ∷ rest) c.loop-one.learner.state ≡ hear_all c.args.news.items c.args.learner.now.state =
    subst (λ (ns : List (News g.row.B.Denot)). hear_all ns c.loop-one.learner.state ≡ hear_all c.args.news.items c.args.learner.now.state) step
    c.loop-one.invariant.0 in
    let had : suc (length rest) ≤ c.loop-one.learner.room.votes = room.votes in
    let left : c.loop-one.learner.room.votes ≤ c.hear_one.new.learner.room.votes + 1 = c.hear_one.ensures.votes in (
      ap (λ (s : State g.row.B.Denot). hear_all rest s) c.hear_one.ensures.state ∙ heard,
      record { votes = omega arith; places = kept_places rest c.loop-one.learner c.hear_one.new.learner c.hear_one.ensures.places room.places.1 },
    )

pub loop-one-init : goal.loop-one-init
loop-one-init g c =
    let same = c.into_iter-one-iterator.ensures.into_iter_gives.0 in (
      ap (λ (ns : List (News g.row.B.Denot)). hear_all ns c.args.learner.now.state) same,
      subst (λ (ns : List (News g.row.B.Denot)). HasRoomFor ns c.args.learner.now) (sym same) c.requires,
    )

pub hear_one-requires-clause-votes : goal.hear_one-requires-clause-votes
hear_one-requires-clause-votes g c =
    next_vote (into_iter_items c.loop-one.one-iterator) (into_iter_items c.next.new.self) c.in-Some.one c.loop-one.learner
    c.in-Some.ensures.steps.0 c.loop-one.invariant.1

pub hear_one-requires-clause-place : goal.hear_one-requires-clause-place
hear_one-requires-clause-place g c =
    next_place (into_iter_items c.loop-one.one-iterator) (into_iter_items c.next.new.self) c.in-Some.one c.loop-one.learner
    c.in-Some.ensures.steps.0 c.loop-one.invariant.1

pub returns : goal.returns
returns g c =
    let none : into_iter_items c.loop-one.one-iterator ≡ [] =
    nil_from_length (into_iter_items c.loop-one.one-iterator) (sym c.loop-one.one-iterator.rest.ok.0 ∙ c.in-None.ensures.steps.0) in
    sym (ap (λ (ns : List (News g.row.B.Denot)). hear_all ns c.loop-one.learner.state) none) ∙ c.loop-one.invariant.0
