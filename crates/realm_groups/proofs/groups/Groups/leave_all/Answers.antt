use Rattle.std.proofs.Common.{List, ap, sym, subst, ◌∙◌}
use Rattle.realm_groups.specs.IdSets.{has_id_in, ids_of}
use Rattle.realm_groups.proofs.Leaving.{each_none}
use Rattle.realm_groups.proofs.Joining.{Taken, is_in_none, told_all}
use Rattle.realm_groups.proofs.groups.Groups.leave_all.Goals as goal

pub returns-in_default : goal.returns-in_default
returns-in_default g c = rw (← c.self.view_is)
    (ap (λ (list : List g.row.G.Denot). record { list = list; last = c.self.inside.last })
    (sym (each_none g.G.Group.sessions_of g.G.Group.without c.args.session c.self.inside.by_id.entries
    (is_in_none g.G.Group.sessions_of c.args.session c.self.inside.by_id.entries c.self.invariant.kept.rising
    (λ q. sym (c.self.invariant.joined c.args.session q)
    ∙ ap (λ ids. has_id_in ids q) (sym (ap (λ s. ids_of c.self.inside.by_session s) c.get.ensures.value) ∙ c.in_default.ensures.none))))))

pub invariant_of-self-2 : goal.invariant_of-self-2
invariant_of-self-2 g c = record {
  kept = c.leave_each.ensures.kept c.self.inside.last c.self.invariant.kept;
  joined = told_all g.G.Group.sessions_of c.self.inside.by_session c.take.new.self c.self.inside.by_id.entries c.leave_each.new.rows.entries
      c.args.session
      (subst (λ s. Taken s c.self.inside.by_session c.take.new.self) c.get.ensures.value c.take.ensures.others)
      c.leave_each.ensures.none c.leave_each.ensures.others c.self.invariant.joined;
  last_is_id = c.self.invariant.last_is_id;
}
