use Rattle.std.proofs.Common.{List, ap, sym, ◌∙◌}
use Rattle.realm_lists.specs.OrderedList.{members}
use Rattle.realm_groups.specs.Groups.{alter_at, has_id}
use Rattle.realm_groups.proofs.Rows.{change_single}
use Rattle.realm_groups.proofs.Keeping.{kept_altered, single_id}
use Rattle.realm_groups.proofs.Joining.{told_turned}
use Rattle.realm_groups.proofs.groups.Groups.turn.Goals as goal

pub invariant_of-self : goal.invariant_of-self
invariant_of-self g c = rw c.turn_in.ensures
    (record {
      kept = kept_altered g.G.Group.id_of g.G.Group.pattern_of g.G.Group.sessions_of
          c.self.inside.by_id.entries c.self.inside.patterns
          c.self.inside.last c.self.invariant.kept c.get.result g.G.Turning.turned g.met.G.Turning.turned_id g.met.G.Turning.turned_pattern
          (λ y is. g.met.G.Turning.turned_held y ∙ c.self.invariant.kept.held c.get.result y is);
      joined = told_turned g.G.Group.sessions_of c.self.inside.by_session c.self.inside.by_id.entries c.get.result g.G.Turning.turned
          g.met.G.Turning.turned_member c.self.invariant.joined;
      last_is_id = c.self.invariant.last_is_id;
    })

pub returns : goal.returns
returns g c = rw (← c.self.view_is)
    (ap (λ (list : List g.row.G.Denot). record { list = list; last = c.self.inside.last })
    (ap members c.turn_in.ensures
    ∙ ap (λ n. members (alter_at n g.G.Turning.turned c.self.inside.by_id.entries)) c.get.ensures.value
    ∙ sym (change_single (has_id g.G.Group.id_of c.args.id) g.G.Turning.turned c.args.id c.self.inside.by_id.entries
    (single_id g.G.Group.id_of g.G.Group.pattern_of g.G.Group.sessions_of
    c.self.inside.by_id.entries c.self.inside.patterns
    c.self.inside.last c.self.invariant.kept c.args.id))))
