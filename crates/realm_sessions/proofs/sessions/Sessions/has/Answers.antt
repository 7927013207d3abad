use Rattle.std.proofs.Common.{is_some, sym, ap, ◌∙◌}
use Rattle.realm_lists.proofs.Finding.{any_is_find}
use Rattle.realm_lists.proofs.Told.{is_some_mapped}
use Rattle.realm_sessions.specs.Links.{has_id}
use Rattle.realm_sessions.specs.declared.links.Link.{Link}
use Rattle.realm_sessions.proofs.sessions.Sessions.has.Goals as goal

pub returns : goal.returns
returns c =
    c.is_some.ensures ∙ ap is_some c.by_id.ensures ∙ is_some_mapped (λ (link : Link). link.transport) _
    ∙ sym (any_is_find (has_id c.args.id) c.args.self.now.list)
