use Rattle.std.proofs.Common.{is_some, sym, ap, ◌∙◌}
use Rattle.realm_lists.proofs.Finding.{any_is_find}
use Rattle.realm_lists.proofs.Told.{is_some_mapped}
use Rattle.realm_sessions.specs.Links.{has_id}
use Rattle.realm_sessions.proofs.sessions.is_taken.Goals as goal

pub returns : goal.returns
returns c =
    c.is_some.ensures ∙ sym (is_some_mapped (λ link. link.now) c.link_with.result) ∙ ap is_some c.link_with.ensures
    ∙ sym (any_is_find (has_id c.args.id) c.args.held.now)
