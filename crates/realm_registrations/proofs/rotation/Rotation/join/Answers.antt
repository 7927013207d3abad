use Rattle.std.proofs.Common.{◌+◌, ap, ◌∙◌}
use Rattle.realm_registrations.specs.Callees.{seen}
use Rattle.realm_registrations.proofs.Cursor.{seen_joined}
use Rattle.realm_registrations.proofs.rotation.Rotation.join.Goals as goal

pub returns-clause-ok : goal.returns-clause-ok
returns-clause-ok c = rw (← c.self.view_is)
    (ap (seen (c.self.inside.cursor + 1)) c.in_ok-insert.ensures.items
    ∙ seen_joined c.self.inside.cursor c.args.session c.self.inside.list.items c.self.invariant)
