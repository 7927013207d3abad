use Rattle.std.proofs.Common.{ap, ◌∙◌}
use Rattle.realm_groups.specs.Groups.{shown, with_found}
use Rattle.realm_groups.proofs.Gathering.{put_shown}
use Rattle.realm_groups.proofs.matching.add_found.Goals as goal

pub returns-clause-ok : goal.returns-clause-ok
returns-clause-ok g c =
    ap shown c.in_ok-insert.ensures.entries
    ∙ put_shown c.args.found.now.entries c.args.id c.in-Some.group
    ∙ ap (λ o. with_found c.args.id o (shown c.args.found.now.entries)) c.in-Some.ensures.value
