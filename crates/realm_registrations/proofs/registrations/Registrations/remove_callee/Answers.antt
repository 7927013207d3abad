use Rattle.std.proofs.Common.{List, ap}
use Rattle.realm_registrations.specs.declared.registration.Registration.{Registration}
use Rattle.realm_registrations.specs.Registration.{has_id}
use Rattle.realm_registrations.proofs.Grouped.{left_same}
use Rattle.realm_registrations.proofs.registrations.Registrations.remove_callee.Goals as goal

pub returns : goal.returns
returns c = rw (c.leave.ensures, ← c.self.view_is)
    (ap (λ (list : List Registration). record { limit = c.self.inside.limit; list = list; last = c.self.inside.groups.last })
    (left_same c.args.session (has_id c.args.id) c.self.inside.groups.list c.are_held.ensures (rw (← c.self.view_is) at c.requires)))
