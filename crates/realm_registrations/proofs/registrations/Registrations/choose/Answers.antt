use Rattle.std.proofs.Common.{ap, ◌∙◌}
use Rattle.realm_registrations.specs.Registrations.{found_chosen}
use Rattle.realm_registrations.proofs.registrations.Registrations.choose.Goals as goal

pub returns-in-Some : goal.returns-in-Some
returns-in-Some c = rw (← c.self.view_is) (c.chosen.ensures ∙ ap found_chosen c.in-Some.ensures)
