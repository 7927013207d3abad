use Rattle.std.proofs.Common.{◌≡◌, ◌<◌, ◌≤◌, ◌+◌, ◌*◌, ◌∙◌, ℕ, length, rules, sym, ap, subst, arith, vec_len, vec_capacity}
use Rattle.mail_table.specs.Boxes.{rising}
use Rattle.mail_table.specs.Seats.{Mailed}
use Rattle.mail_table.proofs.Dealing.{next_one, splits_at, seat_is, founder_is, length_seats, one_seat_more}
use Rattle.mail_table.proofs.founding.hand_out.Goals as goal

pub split_seat-seat-requires : goal.split_seat-seat-requires
split_seat-seat-requires g c =
    let i = c.loop-below.invariant in
    let k = c.loop-below.below in
    let m = next_one k c.args.nodes i.0.0 i.0.1 (search rules) in
    let v = ap (λ z. z.0) i.0.2 ∙ ap (rising k) m.1 in
    let some_words : 0 < c.args.table.now.shared.table_id.words = omega (arith, c.requires.sized.words, c.requires.sized.least) in
    (i.1, some_words, (splits_at g.B.Body.same c.args.table.now.shared.key.nodes c.args.table.now.shared.key.most c.loop-below.founder.id k m.0 c.loop-below.founder.me.0 v))

pub of-requires-clause-fresh : goal.of-requires-clause-fresh
of-requires-clause-fresh g c =
    let i = c.loop-below.invariant in
    let k = c.loop-below.below in
    let m = next_one k c.args.nodes i.0.0 i.0.1 (search rules) in
    seat_is k m.0 c.loop-below.founder.me.0 c.split_seat-seat.result.me (ap (λ z. z.0) i.0.2 ∙ ap (rising k) m.1) (search rules)

pub push_reserved-requires : goal.push_reserved-requires
push_reserved-requires g c =
    let i = c.loop-below.invariant in
    let k = c.loop-below.below in
    let l : length c.loop-below.seats.items ≡ vec_len c.loop-below.seats = search rules in
    let mail : Mailed = record { office = c.args.mark.now.seen.book; table = c.args.mark.now.number; members = c.args.nodes; most = c.args.most } in
    let e : length c.loop-below.seats.items ≡ k = ap length i.3 ∙ length_seats g.row.B.Denot mail k in
    let b : k < c.args.nodes = search rules in
    let r : c.args.nodes ≤ vec_capacity c.loop-below.seats = i.2 in
    omega arith

pub loop-below-preserved : goal.loop-below-preserved
loop-below-preserved g c =
    let i = c.loop-below.invariant in
    let k = c.loop-below.below in
    let b : k < c.args.nodes = search rules in
    let m = next_one k c.args.nodes i.0.0 i.0.1 b in
    let e : k + i.0.0 ≡ c.args.nodes = i.0.1 in
    let f : k + 1 + m.0 ≡ c.args.nodes = omega (arith, m.1) in
    let v = ap (λ z. z.0) i.0.2 ∙ ap (rising k) m.1 in (
      (m.0, f, founder_is k m.0 c.loop-below.founder.me.0 c.split_seat-seat.new.seat.me v (search rules)),
      search rules,
      search rules,
      rw (c.push_reserved.ensures.items, c.of.ensures) (search (rules, one_seat_more)),
    )
