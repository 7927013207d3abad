use Rattle.std.proofs.Common.{◌≡◌, ◌<◌, ◌∙◌, ◌⊎◌, ⊎_elim, inl, inr, [], ◌∷◌, length, rules, ap, sym, subst, arith}
use Rattle.std.proofs.lemmas.List.Elements.{All-take}
use Rattle.cluster_world.specs.Has.{Has, here}
use Rattle.mail_table.proofs.Collecting.{joins, one_in, has_last, none_left}
use Rattle.mail_table.specs.Seats.{Seated}
use Rattle.mail_table.proofs.gathering.take_in.Goals as goal

pub join_seat-requires : goal.join_seat-requires
join_seat-requires g c =
    let some_words : 0 < c.args.table.now.shared.table_id.words = search rules in (
      search rules,
      search rules,
      search rules,
      some_words,
      joins g.B.Body.same c.args.table.now.shared.key.nodes c.args.table.now.shared.key.most c.loop-next.gatherer.id c.loop-next.gatherer.me.0 c.take_token-seat.result.id
          c.take_token-seat.result.me.0,
    )

pub loop-next-preserved : goal.loop-next-preserved
loop-next-preserved g c = (
  rw c.in-Some-pop.ensures.rest (All-take (λ (s : Seated g.row.B.Denot). (s.office ≡ c.args.mark.now.seen.book) × (s.table ≡
      c.args.mark.now.number)) _ c.loop-next.seats.items c.loop-next.invariant.0),
  search rules,
  search rules,
  λ x h. one_in c.loop-next.seats.items c.pop-in-loop-next.new.self.items c.in-Some-pop.next c.loop-next.gatherer.me.0
      c.take_token-seat.result.me.0
      c.join_seat.new.seat.me.0 c.in-Some-pop.ensures.items (ap (λ m. m.0) c.take_token-seat.ensures.knows) (search rules) x
      (c.loop-next.invariant.3 x h),
)

pub returns-clause-knows : goal.returns-clause-knows
returns-clause-knows g c =
    λ x h.
    let gone : length c.loop-next.seats.items ≡ 0 = search rules in
    let first = c.in-Some.first in
    none_left c.loop-next.seats.items c.loop-next.gatherer.me.0 gone x
    (c.loop-next.invariant.3 x
    (⊎_elim (λ a. inl a)
    (λ b. inr (subst (λ z. Has z x) (sym (ap (λ m. m.0) c.take_token-gatherer.ensures.knows)) (subst (λ z. Has (first.part ∷ []) z) b here)))
    (has_last c.args.seats.items c.pop.new.self.items first c.in-Some.ensures.items x h)))
