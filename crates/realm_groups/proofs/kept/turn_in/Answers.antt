use Rattle.std.proofs.Common.{sym, ap}
use Rattle.realm_groups.proofs.Changes.{none_there, written}
use Rattle.realm_groups.proofs.kept.turn_in.Goals as goal

pub returns-in_default : goal.returns-in_default
returns-in_default g c =
    none_there c.args.rows.now.entries c.get_mut.follows.lender-at-none.entries c.args.id g.G.Turning.turned
    (sym c.in_default.ensures.value) (ap (λ m. m.entries) c.get_mut.follows.holds-at-none)

pub returns-in-Some : goal.returns-in-Some
returns-in-Some g c =
    let h = c.get_mut.follows.holds c.turn.new.self in
    written c.args.rows.now.entries (c.get_mut.follows.lender c.turn.new.self).entries c.args.id g.G.Turning.turned
    c.in-Some.group.now c.turn.new.self (sym c.in-Some.ensures.value) h.0 c.turn.ensures
