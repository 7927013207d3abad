use Rattle.std.proofs.Common.{is_some, sym, ap, ◌∙◌}
use Rattle.realm_lists.proofs.Finding.{any_is_find}
use Rattle.realm_lists.proofs.Told.{is_some_mapped}
use Rattle.realm_sessions.specs.Links.{is_of}
use Rattle.realm_sessions.proofs.sessions.Sessions.is_connected.Goals as goal

pub returns : goal.returns
returns c =
    rw (← c.self.view_is)
    (c.is_some.ensures ∙ sym (is_some_mapped (λ link. link.now) c.link_of.result) ∙ ap is_some c.link_of.ensures
    ∙ sym (any_is_find (is_of c.args.transport) c.self.inside.held))
