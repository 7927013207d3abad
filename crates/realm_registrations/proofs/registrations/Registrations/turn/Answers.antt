use Rattle.std.proofs.Common.{List, ap}
use Rattle.realm_registrations.specs.declared.registration.Registration.{Registration}
use Rattle.realm_registrations.specs.Registration.{has_id, turned}
use Rattle.realm_registrations.proofs.Grouped.{same_change}
use Rattle.realm_registrations.proofs.registrations.Registrations.turn.Goals as goal

pub returns : goal.returns
returns c = rw (c.turn.ensures, ← c.self.view_is)
    (ap (λ (list : List Registration). record { limit = c.self.inside.limit; list = list; last = c.self.inside.groups.last })
    (same_change (has_id c.args.registration) turned c.self.inside.groups.list))
