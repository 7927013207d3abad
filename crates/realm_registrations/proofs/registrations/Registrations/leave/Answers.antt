use Rattle.std.proofs.Common.{List, ap}
use Rattle.realm_registrations.specs.declared.registration.Registration.{Registration}
use Rattle.realm_registrations.proofs.Grouped.{each_same}
use Rattle.realm_registrations.proofs.registrations.Registrations.leave.Goals as goal

pub returns : goal.returns
returns c = rw (c.leave_all.ensures, ← c.self.view_is)
    (ap (λ (list : List Registration). record { limit = c.self.inside.limit; list = list; last = c.self.inside.groups.last })
    (each_same c.args.session c.self.inside.groups.list c.are_held.ensures))
