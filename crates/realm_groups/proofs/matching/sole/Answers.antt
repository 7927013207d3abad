use Rattle.std.proofs.Common.{◌++◌, ◌∷◌, [], map, None, Some, ap, sym, ◌∙◌, rules}
use Rattle.realm_groups.proofs.Gathering.{one_gathered}
use Rattle.realm_groups.proofs.matching.sole.Goals as goal

pub returns-in_default-clause-found : goal.returns-in_default-clause-found
returns-in_default-clause-found g c =
    ap (λ groups. map (λ group. group.now) groups) c.new-found.ensures.items
    ∙ sym (one_gathered c.args.rows.now.entries c.args.ids.now _ None (search rules) c.requires (sym c.in_default.ensures.value))

pub returns-clause-found : goal.returns-clause-found
returns-clause-found g c =
    ap (λ groups. map (λ group. group.now) groups)
    (c.in_ok-push.ensures.items ∙ ap (λ groups. groups ++ c.in-Some.group ∷ []) c.new-found.ensures.items)
    ∙ sym (one_gathered c.args.rows.now.entries c.args.ids.now _ (Some c.in-Some.group.now) (search rules) c.requires (sym c.in-Some.ensures.value))
