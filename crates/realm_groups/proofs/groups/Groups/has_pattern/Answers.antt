use Rattle.std.proofs.Common.{is_some, find, sym, ap, ◌∙◌}
use Rattle.realm_lists.proofs.Finding.{any_is_find}
use Rattle.realm_lists.proofs.Told.{is_some_mapped}
use Rattle.realm_groups.specs.Groups.{is_at}
use Rattle.realm_groups.proofs.groups.Groups.has_pattern.Goals as goal

pub returns : goal.returns
returns g c =
    c.is_some.ensures ∙ sym (is_some_mapped (λ found. found.now) c.at.result) ∙ ap is_some c.at.ensures
    ∙ ap (λ p. is_some (find (is_at g.G.Group.pattern_of p) c.args.self.now.list)) c.pattern.ensures
    ∙ sym (any_is_find (is_at g.G.Group.pattern_of (g.G.Group.pattern_of c.args.group.now)) c.args.self.now.list)
