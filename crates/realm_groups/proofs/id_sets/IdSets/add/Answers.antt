use Rattle.std.proofs.Common.{sym, nat_cmp}
use Rattle.std.specs.BTreeMap.{is_at}
use Rattle.realm_groups.proofs.Sets.{back_same}
use Rattle.realm_groups.proofs.id_sets.IdSets.add.Goals as goal

pub returns-in-Some-clause-err : goal.returns-in-Some-clause-err
returns-in-Some-clause-err c =
    let h = c.get_mut.follows.holds c.add.new.self in
    rw (← c.self.view_is)
    (back_same c.add.result (is_at (nat_cmp c.args.session)) c.self.inside.sets.entries (c.get_mut.follows.lender c.add.new.self).entries
    c.in-Some.set.now c.add.new.self (sym c.in-Some.ensures.value) h.0 c.add.ensures.err)
