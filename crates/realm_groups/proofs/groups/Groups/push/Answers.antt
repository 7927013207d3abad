use Rattle.std.proofs.Common.{◌+◌, true, false, arith, ap, refl, subst}
use Rattle.realm_groups.specs.Groups.{found_session}
use Rattle.realm_groups.proofs.Rows.{none_above}
use Rattle.realm_groups.proofs.Keeping.{unkept}
use Rattle.realm_groups.proofs.Joining.{Told_more, told_back, told_pushed}
use Rattle.realm_groups.proofs.groups.Groups.push.Goals as goal

pub put_in-requires-clause-new : goal.put_in-requires-clause-new
put_in-requires-clause-new g c = unkept g.G.Group.id_of g.G.Group.pattern_of g.G.Group.sessions_of
    c.self.inside.by_id.entries c.self.inside.patterns
    c.self.inside.last c.self.invariant.kept (g.G.Group.pattern_of c.args.group) (rw (← c.self.view_is) at c.requires.new)

pub invariant_of-self-in_default : goal.invariant_of-self-in_default
invariant_of-self-in_default g c = record {
  kept = c.in_default.ensures.kept
      c.self.inside.last c.self.invariant.kept;
  joined = rw c.in_default.ensures.err
      (told_back g.G.Group.sessions_of c.self.inside.by_session c.add.new.self c.remove.new.self c.self.inside.by_id.entries c.args.session
      (c.self.inside.last + 1)
      (subst (λ s. Told_more g.G.Group.sessions_of s (c.self.inside.last + 1) true c.self.inside.by_session c.add.new.self)
      c.get.ensures.value c.in_ok-add.ensures.ok)
      (subst (λ s. Told_more g.G.Group.sessions_of s (c.self.inside.last + 1) false c.add.new.self c.remove.new.self)
      c.get-in_default.ensures.value c.remove.ensures)
      (ap (found_session g.G.Group.sessions_of c.args.session)
      (none_above (c.self.inside.last + 1) c.self.inside.by_id.entries c.self.invariant.kept.within))
      c.self.invariant.joined);
  last_is_id = c.self.invariant.last_is_id;
}

pub invariant_of-self-2 : goal.invariant_of-self-2
invariant_of-self-2 g c =
    let left = rw (← c.self.view_is) at c.requires.left in
    record {
      kept = c.in-Ok.ensures.kept_with c.self.inside.last refl c.self.invariant.kept;
      joined = rw c.in-Ok.ensures.ok
          (told_pushed g.G.Group.sessions_of c.self.inside.by_session c.add.new.self c.self.inside.by_id.entries c.args.session
          (c.self.inside.last + 1) c.args.group
          (subst (λ s. Told_more g.G.Group.sessions_of s (c.self.inside.last + 1) true c.self.inside.by_session c.add.new.self)
          c.get.ensures.value c.in_ok-add.ensures.ok)
          c.self.invariant.kept.within c.requires.alone c.self.invariant.joined);
      last_is_id = omega (arith, left);
    }
