use Rattle.std.specs.List.Sorted.{IsStrictlySortedBy}
use Rattle.realm_groups.proofs.Rows.{keys_altered}
use Rattle.std.proofs.Common.{nat_cmp, subst, sym, ap, ◌∙◌}
use Rattle.std.specs.Map.{remove_entry}
use Rattle.wamp_patterns.specs.Table.{same_pattern}
use Rattle.realm_groups.specs.Groups.{id_at}
use Rattle.realm_lists.specs.OrderedList.{member_at, without}
use Rattle.realm_groups.proofs.Changes.{gone_rows, held_there, kept_left, none_gone, stays_rows}
use Rattle.realm_groups.proofs.Keeping.{kept_altered}
use Rattle.realm_groups.proofs.Patterns.{id_at_removed}
use Rattle.realm_groups.proofs.kept.leave_in.Goals as goal

pub returns-then-leave_at-clause-rows : goal.returns-then-leave_at-clause-rows
returns-then-leave_at-clause-rows g c =
    c.leave_at.ensures.rows
    ∙ stays_rows g.G.Group.sessions_of (g.G.Group.without c.args.session) c.args.id c.args.rows.now.entries (sym c.if-leave_at.ensures.stays)

pub returns-then-leave_at-clause-kept : goal.returns-then-leave_at-clause-kept
returns-then-leave_at-clause-kept g c = λ last kept.
    rw c.leave_at.ensures.rows
    (kept_altered g.G.Group.id_of g.G.Group.pattern_of g.G.Group.sessions_of c.args.rows.now.entries c.args.patterns.now last kept c.args.id
    (g.G.Group.without c.args.session) (g.met.G.Group.without_id c.args.session) (g.met.G.Group.without_pattern c.args.session)
    (held_there g.G.Group.sessions_of (g.G.Group.without c.args.session) c.args.id c.args.rows.now.entries (sym c.if-leave_at.ensures.stays)))

pub returns-in_default-clause-rows : goal.returns-in_default-clause-rows
returns-in_default-clause-rows g c =
    c.remove.ensures.entries ∙ ap (without c.args.id) c.leave_at.ensures.rows
    ∙ gone_rows g.G.Group.sessions_of (g.G.Group.without c.args.session) c.args.id c.args.rows.now.entries (sym c.if-leave_at.ensures.stays)

pub returns-in_default-clause-kept : goal.returns-in_default-clause-kept
returns-in_default-clause-kept g c = λ last kept.
    rw (c.remove.ensures.entries, c.leave_at.ensures.rows)
    (rw (none_gone g.G.Group.sessions_of (g.G.Group.without c.args.session) c.args.id c.args.rows.now.entries
    (sym (ap (member_at c.args.id) c.leave_at.ensures.rows) ∙ sym c.in_default.ensures.value)) kept)

pub returns-clause-rows : goal.returns-clause-rows
returns-clause-rows g c =
    c.remove.ensures.entries ∙ ap (without c.args.id) c.leave_at.ensures.rows
    ∙ gone_rows g.G.Group.sessions_of (g.G.Group.without c.args.session) c.args.id c.args.rows.now.entries (sym c.if-leave_at.ensures.stays)

pub returns-clause-kept : goal.returns-clause-kept
returns-clause-kept g c = λ last kept.
    kept_left g.G.Group.id_of g.G.Group.pattern_of g.G.Group.sessions_of (g.G.Group.without c.args.session) c.args.id
    c.args.rows.now.entries c.remove.new.self.entries c.args.patterns.now c.remove-2.new.self last c.in-Some.gone
    (g.met.G.Group.without_pattern c.args.session) (sym c.if-leave_at.ensures.stays)
    (sym (ap (member_at c.args.id) c.leave_at.ensures.rows) ∙ sym c.in-Some.ensures.value)
    (c.remove.ensures.entries ∙ ap (without c.args.id) c.leave_at.ensures.rows)
    c.remove.ensures.ordered c.remove-2.ensures.ordered
    (λ p. ap (λ xs. id_at xs p) (c.remove-2.ensures.entries ∙ ap (λ q. remove_entry (same_pattern q) c.args.patterns.now) c.pattern.ensures)
    ∙ id_at_removed c.args.patterns.now (g.G.Group.pattern_of c.in-Some.gone) p kept.ordered)
    kept

pub returns-then-leave_at-clause-rising : goal.returns-then-leave_at-clause-rising
returns-then-leave_at-clause-rising g c = λ rising.
    rw c.leave_at.ensures.rows
    (subst (IsStrictlySortedBy nat_cmp) (sym (keys_altered c.args.id (g.G.Group.without c.args.session) c.args.rows.now.entries)) rising)
