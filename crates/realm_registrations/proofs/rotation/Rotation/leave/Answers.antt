use Rattle.realm_registrations.proofs.Cursor.{fewer_others, seen_left}
use Rattle.realm_registrations.proofs.rotation.Rotation.leave.Goals as goal

pub invariant_of-self : goal.invariant_of-self
invariant_of-self c =
    rw (c.retain_others.ensures, c.count_others-self-inside.ensures, c.deref.ensures.value)
    (fewer_others c.self.inside.cursor c.args.session c.self.inside.list.items)

pub returns : goal.returns
returns c =
    rw (c.retain_others.ensures, c.count_others-self-inside.ensures, c.deref.ensures.value, ← c.self.view_is)
    (seen_left c.self.inside.cursor c.args.session c.self.inside.list.items)
