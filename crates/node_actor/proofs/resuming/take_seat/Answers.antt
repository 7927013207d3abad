use Rattle.std.proofs.Common.{◌≡◌, ◌<◌, ◌^◌, ◌∙◌, true, sym, subst, rules}
use Rattle.mail_table.specs.Covered.{MayRenew}
use Rattle.mail_table.specs.Seats.{Seated}
use Rattle.node_actor.specs.Beginning.{seat_before}
use Rattle.node_actor.proofs.Renewing.{may_at, may_begin_counts, may_begin_first, may_begin_renews}
use Rattle.node_actor.proofs.resuming.take_seat.Goals as goal

pub make_steps-requires-clause-may : goal.make_steps-requires-clause-may
make_steps-requires-clause-may g c =
    let left = c.into_parts-failed.ensures.left in
    λ m is. may_at g.B.Body.same c.args.post left c.args.mail.now.members c.requires.owned.2 c.into_parts-failed.result.1
    c.into_parts-failed.ensures.seat m
    (sym c.into_parts-failed.ensures.failed ∙ is)

pub make_steps-requires-clause-counts : goal.make_steps-requires-clause-counts
make_steps-requires-clause-counts g c =
    let on : c.args.meant ≡ true = search rules in
    let counts = may_begin_first g.B.Body.same c.args.post c.into_parts-failed.ensures.left c.args.rows.now c.args.meant c.requires.may on in
    rw (c.into_parts-failed.ensures.seat, c.into_parts-failed.ensures.failed) counts

pub make_anew-requires-clause-may : goal.make_anew-requires-clause-may
make_anew-requires-clause-may g c =
    let is : c.if-meant.seat ≡ seat_before g.B.Body.same c.args.meant c.args.post.failed c.args.post.seat = search rules in
    subst (λ (s : Seated g.row.B.Denot). MayRenew s.part.seen.opened s.part.seen.node c.args.rows.now) (sym is)
    (may_begin_renews g.B.Body.same c.args.post c.into_parts-failed.ensures.left c.args.rows.now c.args.meant c.requires.may c.requires.within)

pub make_anew-requires-clause-counts : goal.make_anew-requires-clause-counts
make_anew-requires-clause-counts g c =
    let is : c.if-meant.seat ≡ seat_before g.B.Body.same c.args.meant c.args.post.failed c.args.post.seat = search rules in
    subst (λ (s : Seated g.row.B.Denot). s.part.events < 2 ^ 62) (sym is)
    (may_begin_counts g.B.Body.same c.args.post c.into_parts-failed.ensures.left c.args.rows.now c.args.meant c.requires.may)

pub returns-clause-seat : goal.returns-clause-seat
returns-clause-seat g c = search rules
