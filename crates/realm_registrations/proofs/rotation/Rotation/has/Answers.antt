use Rattle.std.proofs.Common.{ℕ, ◌==◌, sym, ap, ◌∙◌}
use Rattle.realm_sessions.specs.Members.{has_member}
use Rattle.realm_registrations.proofs.Cursor.{seen_any}
use Rattle.realm_registrations.proofs.rotation.Rotation.has.Goals as goal

pub returns : goal.returns
returns c = rw (← c.self.view_is)
    (c.has_in.ensures ∙ ap (has_member c.args.session) c.deref.ensures.value
    ∙ sym (seen_any (λ (m : ℕ). m == c.args.session) c.self.inside.cursor c.self.inside.list.items))
