use Rattle.std.proofs.Common.{List, ap}
use Rattle.realm_registrations.specs.declared.registration.Registration.{Registration}
use Rattle.realm_registrations.specs.Registration.{is_at, with_callee}
use Rattle.realm_registrations.proofs.Grouped.{same_change}
use Rattle.realm_registrations.proofs.registrations.Registrations.add_callee.Goals as goal

pub returns-clause-ok : goal.returns-clause-ok
returns-clause-ok c = rw (c.in_ok-join.ensures.ok, ← c.self.view_is)
    (ap (λ (list : List Registration). record { limit = c.self.inside.limit; list = list; last = c.self.inside.groups.last })
    (same_change (is_at c.args.pattern.now) (with_callee c.args.session) c.self.inside.groups.list))
