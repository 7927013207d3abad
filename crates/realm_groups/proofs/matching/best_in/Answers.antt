use Rattle.std.proofs.Common.{sym, ◌∙◌}
use Rattle.realm_groups.proofs.Serving.{best_none, best_some}
use Rattle.realm_groups.proofs.matching.best_in.Goals as goal

pub returns-in_default : goal.returns-in_default
returns-in_default g c = λ last kept.
    sym (best_none g.G.Group.id_of g.G.Group.pattern_of g.G.Group.sessions_of c.args.rows.now.entries c.args.patterns.now last kept
    c.args.uri.now (sym c.in_default.ensures))

pub returns : goal.returns
returns g c = λ last kept.
    c.get.ensures.value
    ∙ sym (best_some g.G.Group.id_of g.G.Group.pattern_of g.G.Group.sessions_of c.args.rows.now.entries c.args.patterns.now last kept
    c.args.uri.now c.in-Some.id.now (sym c.in-Some.ensures))
