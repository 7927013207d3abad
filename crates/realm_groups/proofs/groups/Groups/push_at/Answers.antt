use Rattle.std.proofs.Common.{find, ap, ◌∙◌}
use Rattle.realm_groups.specs.Groups.{Listed, is_at}
use Rattle.realm_groups.proofs.PutGroups.{free_pattern}
use Rattle.realm_groups.proofs.groups.Groups.push_at.Goals as goal

pub push-requires-clause-new : goal.push-requires-clause-new
push-requires-clause-new g c =
    ap (λ (held : Listed g.row.G.Denot). find (is_at g.G.Group.pattern_of (g.G.Group.pattern_of c.args.group)) held.list) c.skip.ensures
    ∙ free_pattern g.G.Group.id_of g.G.Group.pattern_of c.args.self.now c.args.group c.requires.new
