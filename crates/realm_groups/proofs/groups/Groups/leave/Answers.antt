use Rattle.std.proofs.Common.{◌≡◌, List, true, false, ap, sym, subst, ◌∙◌}
use Rattle.realm_lists.specs.OrderedList.{member_at, members}
use Rattle.realm_groups.specs.Groups.{found_session, has_id, left_at}
use Rattle.realm_groups.specs.IdSets.{has_id_in, ids_of}
use Rattle.realm_groups.proofs.Leaving.{left_single, stays_single}
use Rattle.realm_groups.proofs.Keeping.{single_id}
use Rattle.realm_groups.proofs.Joining.{Told_more, told_left}
use Rattle.realm_groups.proofs.groups.Groups.leave.Goals as goal

pub returns-then-not-has : goal.returns-then-not-has
returns-then-not-has g c =
    let told : found_session g.G.Group.sessions_of c.args.session (member_at c.args.id c.self.inside.by_id.entries) ≡ false =
    sym (c.self.invariant.joined c.args.session c.args.id)
    ∙ sym (ap (λ n. has_id_in (ids_of c.self.inside.by_session c.args.session) n) c.get-number.ensures.value)
    ∙ sym (ap (λ s. has_id_in (ids_of c.self.inside.by_session s) c.get-number.result) c.get-member.ensures.value)
    ∙ sym c.if-not-has.ensures in
    rw (← c.self.view_is)
    (ap (λ (list : List g.row.G.Denot). record { list = list; last = c.self.inside.last })
    (sym (stays_single g.G.Group.sessions_of g.G.Group.without c.args.session (has_id g.G.Group.id_of c.args.id) c.args.id
    c.self.inside.by_id.entries (single_id g.G.Group.id_of g.G.Group.pattern_of g.G.Group.sessions_of
    c.self.inside.by_id.entries c.self.inside.patterns c.self.inside.last c.self.invariant.kept c.args.id)
    (λ x is. sym (ap (found_session g.G.Group.sessions_of c.args.session) is) ∙ told))))

pub invariant_of-self : goal.invariant_of-self
invariant_of-self g c = record {
  kept = c.leave_in.ensures.kept c.self.inside.last c.self.invariant.kept;
  joined = rw c.leave_in.ensures.rows
      (told_left g.G.Group.sessions_of c.self.inside.by_session c.remove.new.self c.self.inside.by_id.entries c.args.session c.get-number.result
      (g.G.Group.without c.args.session) c.self.invariant.kept.rising
      (subst (λ s. Told_more g.G.Group.sessions_of s c.get-number.result false c.self.inside.by_session c.remove.new.self)
      c.get-member.ensures.value c.remove.ensures)
      (g.met.G.Group.without_sessions c.args.session) c.self.invariant.joined);
  last_is_id = c.self.invariant.last_is_id;
}

pub returns : goal.returns
returns g c =
    let told : found_session g.G.Group.sessions_of c.args.session (member_at c.args.id c.self.inside.by_id.entries) ≡ true =
    sym (c.self.invariant.joined c.args.session c.args.id)
    ∙ sym (ap (λ n. has_id_in (ids_of c.self.inside.by_session c.args.session) n) c.get-number.ensures.value)
    ∙ sym (ap (λ s. has_id_in (ids_of c.self.inside.by_session s) c.get-number.result) c.get-member.ensures.value)
    ∙ sym c.if-not-has.ensures in
    rw (← c.self.view_is)
    (ap (λ (list : List g.row.G.Denot). record { list = list; last = c.self.inside.last })
    (ap members c.leave_in.ensures.rows
    ∙ ap (λ n. members (left_at g.G.Group.sessions_of n (g.G.Group.without c.args.session) c.self.inside.by_id.entries)) c.get-number.ensures.value
    ∙ sym (left_single g.G.Group.sessions_of g.G.Group.without c.args.session (has_id g.G.Group.id_of c.args.id) c.args.id
    c.self.inside.by_id.entries (single_id g.G.Group.id_of g.G.Group.pattern_of g.G.Group.sessions_of
    c.self.inside.by_id.entries c.self.inside.patterns c.self.inside.last c.self.invariant.kept c.args.id)
    (λ x is. sym (ap (found_session g.G.Group.sessions_of c.args.session) is) ∙ told))))
