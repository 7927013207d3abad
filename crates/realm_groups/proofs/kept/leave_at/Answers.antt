use Rattle.std.proofs.Common.{sym, ap}
use Rattle.realm_groups.proofs.Changes.{none_there, written}
use Rattle.realm_groups.proofs.kept.leave_at.Goals as goal

pub returns-in_default-clause-rows : goal.returns-in_default-clause-rows
returns-in_default-clause-rows g c =
    none_there c.args.rows.now.entries c.get_mut.follows.lender-at-none.entries c.args.id (g.G.Group.without c.args.session)
    (sym c.in_default.ensures.value) (ap (λ m. m.entries) c.get_mut.follows.holds-at-none)

pub returns-clause-rows : goal.returns-clause-rows
returns-clause-rows g c =
    let h = c.get_mut.follows.holds c.leave.new.self in
    written c.args.rows.now.entries (c.get_mut.follows.lender c.leave.new.self).entries c.args.id (g.G.Group.without c.args.session)
    c.in-Some.group.now c.leave.new.self (sym c.in-Some.ensures.value) h.0 c.leave.ensures
