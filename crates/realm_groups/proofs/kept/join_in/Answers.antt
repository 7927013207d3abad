use Rattle.std.proofs.Common.{sym, ap}
use Rattle.realm_groups.proofs.Changes.{none_there, written_back, written_ok}
use Rattle.realm_groups.proofs.kept.join_in.Goals as goal

pub returns-in_default-clause-ok : goal.returns-in_default-clause-ok
returns-in_default-clause-ok g c =
    none_there c.args.rows.now.entries c.get_mut.follows.lender-at-none.entries c.args.id (g.G.Group.with c.args.session)
    (sym c.in_default.ensures.value) (ap (λ m. m.entries) c.get_mut.follows.holds-at-none)

pub returns-clause-ok : goal.returns-clause-ok
returns-clause-ok g c =
    let h = c.get_mut.follows.holds c.join.new.self in
    written_ok c.join.result c.args.rows.now.entries (c.get_mut.follows.lender c.join.new.self).entries c.args.id
    (g.G.Group.with c.args.session) c.in-Some.group.now c.join.new.self (sym c.in-Some.ensures.value) h.0 c.join.ensures.ok

pub returns-clause-err : goal.returns-clause-err
returns-clause-err g c =
    let h = c.get_mut.follows.holds c.join.new.self in
    written_back c.join.result c.args.rows.now.entries (c.get_mut.follows.lender c.join.new.self).entries c.args.id c.in-Some.group.now
    c.join.new.self (sym c.in-Some.ensures.value) h.0 c.join.ensures.err
