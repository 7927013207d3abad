use Rattle.realm_groups.proofs.PutGroups.{kept_below}
use Rattle.realm_groups.proofs.groups.Groups.skip.Goals as goal

pub invariant_of-self : goal.invariant_of-self
invariant_of-self g c =
    let least = rw (← c.self.view_is) at c.requires.least in
    record {
      kept = kept_below g.G.Group.id_of g.G.Group.pattern_of g.G.Group.sessions_of c.self.inside.by_id.entries c.self.inside.patterns
          c.self.inside.last c.args.last least c.self.invariant.kept;
      joined = c.self.invariant.joined;
      last_is_id = c.requires.most;
    }
