use Rattle.std.proofs.Common.{ap, subst, ◌∙◌}
use Rattle.std.specs.BTreeMap.{insert_entry}
use Rattle.std.specs.Map.{remove_entry}
use Rattle.wamp_patterns.specs.Table.{pattern_cmp, same_pattern}
use Rattle.realm_lists.specs.Finding.{AreRising}
use Rattle.realm_lists.proofs.Places.{put_last}
use Rattle.realm_groups.specs.Groups.{id_at}
use Rattle.realm_groups.proofs.Keeping.{kept_same, kept_with}
use Rattle.realm_groups.proofs.Patterns.{back_again, id_at_put}
use Rattle.realm_groups.proofs.kept.put_in.Goals as goal

pub returns-in_default-insert-clause-ok : goal.returns-in_default-insert-clause-ok
returns-in_default-insert-clause-ok g c =
    c.in_default-insert.ensures.entries ∙ put_last c.args.rows.now.entries c.args.id c.args.group c.requires.above

pub returns-in_default-insert-clause-kept_with : goal.returns-in_default-insert-clause-kept_with
returns-in_default-insert-clause-kept_with g c = λ last next kept.
    let pattern = g.G.Group.pattern_of c.args.group in
    let pushed = c.in_default-insert.ensures.entries ∙ put_last c.args.rows.now.entries c.args.id c.args.group c.requires.above in
    rw pushed
    (kept_with g.G.Group.id_of g.G.Group.pattern_of g.G.Group.sessions_of c.args.rows.now.entries c.args.patterns.now last kept c.args.id
    c.args.group c.put.new.self next c.requires.id c.requires.held c.requires.new
    (λ p. ap (λ xs. id_at xs p) (c.in-Ok.ensures.entries ∙ ap (λ q. insert_entry pattern_cmp c.args.patterns.now q c.args.id) c.pattern.ensures)
    ∙ id_at_put c.args.patterns.now pattern c.args.id p)
    (subst AreRising pushed c.insert.ensures.ordered) c.put.ensures.ordered)

pub returns-clause-kept : goal.returns-clause-kept
returns-clause-kept g c = λ last kept.
    rw c.in-Err.ensures.err
    (kept_same g.G.Group.id_of g.G.Group.pattern_of g.G.Group.sessions_of c.args.rows.now.entries c.args.patterns.now last kept
    c.remove.new.self c.remove.ensures.ordered
    (λ q. back_again c.args.patterns.now c.put.new.self c.remove.new.self (g.G.Group.pattern_of c.args.group) c.args.id q c.requires.new
    (c.in-Ok.ensures.entries ∙ ap (λ p. insert_entry pattern_cmp c.args.patterns.now p c.args.id) c.pattern.ensures) c.put.ensures.ordered
    (c.remove.ensures.entries
    ∙ ap (λ p. remove_entry (same_pattern p) c.put.new.self)
    (c.pattern-2.ensures ∙ ap (λ v. g.G.Group.pattern_of v.1) c.in-Err.ensures.value_returned))))
