use Rattle.std.proofs.Common.{List, Some, true, false, ap, sym, subst, ◌∙◌}
use Rattle.realm_lists.specs.OrderedList.{members}
use Rattle.realm_groups.specs.Groups.{found_session, is_at}
use Rattle.realm_groups.proofs.Rows.{change_none, change_single}
use Rattle.realm_groups.proofs.Keeping.{found_pattern, kept_altered, no_pattern, single_pattern, stands}
use Rattle.realm_groups.proofs.Joining.{Told_more, joined_held, told_back, told_joined}
use Rattle.realm_sessions.specs.Members.{has_members}
use Rattle.realm_groups.proofs.groups.Groups.join.Goals as goal

pub returns-in_default-clause-ok : goal.returns-in_default-clause-ok
returns-in_default-clause-ok g c = rw (← c.self.view_is)
    (ap (λ (list : List g.row.G.Denot). record { list = list; last = c.self.inside.last })
    (sym (change_none (is_at g.G.Group.pattern_of c.args.pattern.now) (λ group. Some (g.G.Group.with c.args.session group))
    c.self.inside.by_id.entries (no_pattern g.G.Group.id_of g.G.Group.pattern_of g.G.Group.sessions_of
    c.self.inside.by_id.entries c.self.inside.patterns
    c.self.inside.last c.self.invariant.kept c.args.pattern.now (sym c.in_default.ensures.value)))))

pub join_in-requires : goal.join_in-requires
join_in-requires g c =
    sym (ap (found_session g.G.Group.sessions_of c.args.session)
    (found_pattern g.G.Group.id_of g.G.Group.pattern_of g.G.Group.sessions_of
    c.self.inside.by_id.entries c.self.inside.patterns
    c.self.inside.last c.self.invariant.kept c.args.pattern.now c.in-Some.id.now (sym c.in-Some.ensures.value)))
    ∙ (rw (← c.self.view_is) at c.requires)

pub invariant_of-self-in-Ok : goal.invariant_of-self-in-Ok
invariant_of-self-in-Ok g c =
    let id = c.in-Some.id.now in
    let it = stands g.G.Group.id_of g.G.Group.pattern_of g.G.Group.sessions_of
    c.self.inside.by_id.entries c.self.inside.patterns
    c.self.inside.last c.self.invariant.kept c.args.pattern.now id (sym c.in-Some.ensures.value) in
    rw c.in-Ok.ensures.ok
    (record {
      kept = kept_altered g.G.Group.id_of g.G.Group.pattern_of g.G.Group.sessions_of
          c.self.inside.by_id.entries c.self.inside.patterns
          c.self.inside.last c.self.invariant.kept id (g.G.Group.with c.args.session) (g.met.G.Group.with_id c.args.session)
          (g.met.G.Group.with_pattern c.args.session)
          (λ y is. ap has_members (g.met.G.Group.with_sessions c.args.session y) ∙ joined_held c.args.session (g.G.Group.sessions_of y));
      joined = told_joined g.G.Group.sessions_of c.self.inside.by_session c.add.new.self c.self.inside.by_id.entries c.args.session id
          (g.G.Group.with c.args.session) it.0
          (subst (λ s. Told_more g.G.Group.sessions_of s id true c.self.inside.by_session c.add.new.self) c.get-2.ensures.value c.in_ok-add.ensures.ok)
          it.1 (g.met.G.Group.with_sessions c.args.session it.0) c.self.invariant.joined;
      last_is_id = c.self.invariant.last_is_id;
    })

pub invariant_of-self-in_default-join_in : goal.invariant_of-self-in_default-join_in
invariant_of-self-in_default-join_in g c =
    let id = c.in-Some.id.now in
    rw c.in_default-join_in.ensures.err
    (record {
      kept = c.self.invariant.kept;
      joined = told_back g.G.Group.sessions_of c.self.inside.by_session c.add.new.self c.remove.new.self c.self.inside.by_id.entries
          c.args.session id
          (subst (λ s. Told_more g.G.Group.sessions_of s id true c.self.inside.by_session c.add.new.self) c.get-2.ensures.value c.in_ok-add.ensures.ok)
          (subst (λ s. Told_more g.G.Group.sessions_of s id false c.add.new.self c.remove.new.self) c.get-in_default-join_in.ensures.value
          c.remove.ensures)
          (sym (ap (found_session g.G.Group.sessions_of c.args.session)
          (found_pattern g.G.Group.id_of g.G.Group.pattern_of g.G.Group.sessions_of
          c.self.inside.by_id.entries c.self.inside.patterns
          c.self.inside.last c.self.invariant.kept c.args.pattern.now id (sym c.in-Some.ensures.value)))
          ∙ (rw (← c.self.view_is) at c.requires))
          c.self.invariant.joined;
      last_is_id = c.self.invariant.last_is_id;
    })

pub returns-clause-ok : goal.returns-clause-ok
returns-clause-ok g c = rw (← c.self.view_is)
    (ap (λ (list : List g.row.G.Denot). record { list = list; last = c.self.inside.last })
    (ap members c.in-Ok.ensures.ok
    ∙ sym (change_single (is_at g.G.Group.pattern_of c.args.pattern.now) (g.G.Group.with c.args.session) c.in-Some.id.now
    c.self.inside.by_id.entries (single_pattern g.G.Group.id_of g.G.Group.pattern_of g.G.Group.sessions_of
    c.self.inside.by_id.entries c.self.inside.patterns
    c.self.inside.last c.self.invariant.kept c.args.pattern.now c.in-Some.id.now (sym c.in-Some.ensures.value)))))
