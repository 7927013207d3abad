use Rattle.std.proofs.Common.{◌≡◌, ℕ, nat_cmp}
use Rattle.std.specs.List.Sorted.{IsStrictlySortedBy}
use Rattle.realm_lists.specs.OrderedList.{member_at, members}
use Rattle.realm_lists.specs.Finding.{AreRising}
use Rattle.realm_groups.specs.Groups.{StayKept, departed, each, found_session}
use Rattle.realm_groups.specs.IdSets.{has_id_in}
use Rattle.realm_groups.proofs.kept.leave_each.Given as goal

-- the session is in the groups of the ids that are left, and leaves as many as at first
abbrev pub invariant-loop-id : goal.invariant-loop-id
invariant-loop-id g l = record {
  rising : AreRising l.rows.entries;
  ordered : IsStrictlySortedBy nat_cmp l.id-iterator;
  told : (id : ℕ) → has_id_in l.id-iterator id ≡ found_session g.G.Group.sessions_of l.session (member_at id l.rows.entries);
  list : each (departed g.G.Group.sessions_of g.G.Group.without l.session) (members l.rows.entries)
      ≡ each (departed g.G.Group.sessions_of g.G.Group.without l.session) (members l.initial.rows.entries);
  others : (other id : ℕ) → (other ≡ l.session → ⊥)
      → found_session g.G.Group.sessions_of other (member_at id l.rows.entries)
      ≡ found_session g.G.Group.sessions_of other (member_at id l.initial.rows.entries);
  kept : StayKept g.G.Group.id_of g.G.Group.pattern_of g.G.Group.sessions_of l.initial.rows.entries l.initial.patterns l.rows.entries l.patterns;
}
