use Rattle.std.proofs.Common.{◌≡◌, ◌∷◌, ℕ, nat_cmp, sym, ap, subst, ◌∙◌}
use Rattle.std.specs.List.Sorted.{IsStrictlySortedBy}
use Rattle.realm_lists.specs.OrderedList.{member_at, members}
use Rattle.realm_groups.specs.Groups.{departed, each, found_session}
use Rattle.realm_groups.specs.IdSets.{has_id_in}
use Rattle.realm_groups.proofs.Joining.{behind_sorted, gone_member, is_in_first, is_in_none, others_left, rest_told}
use Rattle.realm_sessions.specs.Members.{has_member}
use Rattle.realm_groups.proofs.Leaving.{each_left, each_none}
use Rattle.realm_groups.proofs.kept.leave_each.Goals as goal

pub loop-id-preserved : goal.loop-id-preserved
loop-id-preserved g c =
    let sessions_of = g.G.Group.sessions_of in
    let session = c.args.session in
    let left = g.G.Group.without session in
    let rows = c.loop-id.rows.entries in
    let id = c.in-Some.id.now in
    let rest = c.next.new.self in
    let steps = c.in-Some.ensures.steps in
    let sorted = subst (IsStrictlySortedBy nat_cmp) steps c.loop-id.invariant.ordered in
    let told : (q : ℕ) → has_id_in (id ∷ rest) q ≡ found_session sessions_of session (member_at q rows) =
    λ q. ap (λ ids. has_id_in ids q) (sym steps) ∙ c.loop-id.invariant.told q in
    let one = g.met.G.Group.without_sessions session in
    let changed = c.leave_in.ensures.rows in
    record {
      rising = c.leave_in.ensures.rising c.loop-id.invariant.rising;
      ordered = behind_sorted id rest sorted;
      told = λ q. rest_told sessions_of session id left rest rows c.loop-id.invariant.rising sorted one told q
          ∙ sym (ap (λ xs. found_session sessions_of session (member_at q xs)) changed);
      list = ap (λ xs. each (departed sessions_of g.G.Group.without session) (members xs)) changed
          ∙ each_left sessions_of g.G.Group.without session id rows (is_in_first sessions_of session id rest rows told)
          (λ x. ap (has_member session) (one x) ∙ gone_member session (sessions_of x))
          ∙ c.loop-id.invariant.list;
      others = λ other q apart. ap (λ xs. found_session sessions_of other (member_at q xs)) changed
          ∙ others_left sessions_of session other left id q rows c.loop-id.invariant.rising one apart
          ∙ c.loop-id.invariant.others other q apart;
      kept = λ last kept. c.leave_in.ensures.kept last (c.loop-id.invariant.kept last kept);
    }

pub returns-clause-list : goal.returns-clause-list
returns-clause-list g c =
    let sessions_of = g.G.Group.sessions_of in
    let rows = c.loop-id.rows.entries in
    sym (each_none sessions_of g.G.Group.without c.args.session rows
    (is_in_none sessions_of c.args.session rows c.loop-id.invariant.rising
    (λ q. sym (c.loop-id.invariant.told q) ∙ ap (λ ids. has_id_in ids q) c.in-None.ensures.steps.0)))
    ∙ c.loop-id.invariant.list
