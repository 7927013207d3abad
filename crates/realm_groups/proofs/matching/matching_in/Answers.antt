use Rattle.std.proofs.Common.{ℕ, List, [], ap, map, ◌∙◌}
use denote.Ref.{Bor}
use Rattle.std.specs.Map.{values_of}
use Rattle.std.proofs.lemmas.Result.{IfOk-weaker}
use Rattle.realm_groups.specs.Groups.{gathered}
use Rattle.realm_groups.proofs.Gathering.{gathered_match}
use Rattle.realm_groups.proofs.matching.matching_in.Goals as goal

pub returns-clause-found : goal.returns-clause-found
returns-clause-found g c =
    let rows = c.args.rows.now.entries in
    let told = ap (λ (ids : List (Bor ℕ)). map (λ id. id.now) ids) c.deref-2.ensures.value ∙ c.in-Ok.ensures.found in
    IfOk-weaker c.values.result _ _
    (λ list h last kept.
    h ∙ ap values_of (c.in_ok-found.ensures.found ∙ ap (gathered rows []) told)
    ∙ gathered_match g.G.Group.id_of g.G.Group.pattern_of g.G.Group.sessions_of rows c.args.patterns.now last kept c.args.uri.now)
    c.values.ensures.list

pub returns-then-len-lt2-clause-found : goal.returns-then-len-lt2-clause-found
returns-then-len-lt2-clause-found g c =
    let rows = c.args.rows.now.entries in
    let told = ap (λ (ids : List (Bor ℕ)). map (λ id. id.now) ids) c.deref.ensures.value ∙ c.in-Ok.ensures.found in
    IfOk-weaker c.sole.result _ _
    (λ list h last kept.
    h ∙ ap (λ ids. values_of (gathered rows [] ids)) told
    ∙ gathered_match g.G.Group.id_of g.G.Group.pattern_of g.G.Group.sessions_of rows c.args.patterns.now last kept c.args.uri.now)
    c.sole.ensures.found
