use Rattle.std.proofs.Common.{List, Some, true, false, ap, sym, subst, ◌∙◌, option_map}
use Rattle.realm_lists.specs.OrderedList.{member_at, members}
use Rattle.realm_groups.specs.Groups.{alter_at, found_session, has_id}
use Rattle.realm_groups.proofs.Rows.{change_single}
use Rattle.realm_groups.proofs.PutGroups.{none_changed}
use Rattle.realm_groups.proofs.Keeping.{kept_altered, found_id, single_id}
use Rattle.realm_groups.proofs.Joining.{Told_more, joined_held, told_back, told_joined}
use Rattle.realm_sessions.specs.Members.{has_members}
use Rattle.realm_groups.proofs.groups.Groups.join_at.Goals as goal

pub returns-in_default-clause-ok : goal.returns-in_default-clause-ok
returns-in_default-clause-ok g c = rw (← c.self.view_is)
    (ap (λ (list : List g.row.G.Denot). record { list = list; last = c.self.inside.last })
    (sym (none_changed (has_id g.G.Group.id_of c.args.id) (λ group. Some (g.G.Group.with c.args.session group))
    (members c.self.inside.by_id.entries)
    (found_id g.G.Group.id_of g.G.Group.pattern_of g.G.Group.sessions_of c.self.inside.by_id.entries c.self.inside.patterns
    c.self.inside.last c.self.invariant.kept c.args.id
    ∙ ap (λ n. member_at n c.self.inside.by_id.entries) (sym c.get-number.ensures.value) ∙ sym c.in_default.ensures.value))))

pub join_in-requires : goal.join_in-requires
join_in-requires g c =
    ap (λ n. found_session g.G.Group.sessions_of c.args.session (member_at n c.self.inside.by_id.entries)) c.get-number.ensures.value
    ∙ sym (ap (found_session g.G.Group.sessions_of c.args.session) (found_id g.G.Group.id_of g.G.Group.pattern_of g.G.Group.sessions_of
    c.self.inside.by_id.entries c.self.inside.patterns c.self.inside.last c.self.invariant.kept c.args.id))
    ∙ (rw (← c.self.view_is) at c.requires)

pub invariant_of-self-in-Ok : goal.invariant_of-self-in-Ok
invariant_of-self-in-Ok g c =
    let id = c.get-number.result in
    let there = sym c.get.ensures.value ∙ ap (option_map (λ group. group.now)) c.in-Some.is in
    rw c.in-Ok.ensures.ok
    (record {
      kept = kept_altered g.G.Group.id_of g.G.Group.pattern_of g.G.Group.sessions_of
          c.self.inside.by_id.entries c.self.inside.patterns
          c.self.inside.last c.self.invariant.kept id (g.G.Group.with c.args.session) (g.met.G.Group.with_id c.args.session)
          (g.met.G.Group.with_pattern c.args.session)
          (λ y is. ap has_members (g.met.G.Group.with_sessions c.args.session y) ∙ joined_held c.args.session (g.G.Group.sessions_of y));
      joined = told_joined g.G.Group.sessions_of c.self.inside.by_session c.add.new.self c.self.inside.by_id.entries c.args.session id
          (g.G.Group.with c.args.session) c.in-Some._group.now
          (subst (λ s. Told_more g.G.Group.sessions_of s id true c.self.inside.by_session c.add.new.self) c.get-joining.ensures.value c.in_ok-add.ensures.ok)
          there (g.met.G.Group.with_sessions c.args.session c.in-Some._group.now) c.self.invariant.joined;
      last_is_id = c.self.invariant.last_is_id;
    })

pub invariant_of-self-in_default-join_in : goal.invariant_of-self-in_default-join_in
invariant_of-self-in_default-join_in g c =
    let id = c.get-number.result in
    rw c.in_default-join_in.ensures.err
    (record {
      kept = c.self.invariant.kept;
      joined = told_back g.G.Group.sessions_of c.self.inside.by_session c.add.new.self c.remove.new.self c.self.inside.by_id.entries
          c.args.session id
          (subst (λ s. Told_more g.G.Group.sessions_of s id true c.self.inside.by_session c.add.new.self) c.get-joining.ensures.value c.in_ok-add.ensures.ok)
          (subst (λ s. Told_more g.G.Group.sessions_of s id false c.add.new.self c.remove.new.self) c.get-joining.ensures.value c.remove.ensures)
          (ap (λ n. found_session g.G.Group.sessions_of c.args.session (member_at n c.self.inside.by_id.entries)) c.get-number.ensures.value
          ∙ sym (ap (found_session g.G.Group.sessions_of c.args.session) (found_id g.G.Group.id_of g.G.Group.pattern_of g.G.Group.sessions_of
          c.self.inside.by_id.entries c.self.inside.patterns c.self.inside.last c.self.invariant.kept c.args.id))
          ∙ (rw (← c.self.view_is) at c.requires))
          c.self.invariant.joined;
      last_is_id = c.self.invariant.last_is_id;
    })

pub returns-clause-ok : goal.returns-clause-ok
returns-clause-ok g c = rw (← c.self.view_is)
    (ap (λ (list : List g.row.G.Denot). record { list = list; last = c.self.inside.last })
    (ap members c.in-Ok.ensures.ok
    ∙ ap (λ n. members (alter_at n (g.G.Group.with c.args.session) c.self.inside.by_id.entries)) c.get-number.ensures.value
    ∙ sym (change_single (has_id g.G.Group.id_of c.args.id) (g.G.Group.with c.args.session) c.args.id
    c.self.inside.by_id.entries (single_id g.G.Group.id_of g.G.Group.pattern_of g.G.Group.sessions_of
    c.self.inside.by_id.entries c.self.inside.patterns c.self.inside.last c.self.invariant.kept c.args.id))))
