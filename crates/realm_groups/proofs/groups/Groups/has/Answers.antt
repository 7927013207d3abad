use Rattle.std.proofs.Common.{sym, ap, ◌∙◌}
use Rattle.realm_groups.specs.Groups.{found_session, has_id}
use Rattle.realm_groups.specs.IdSets.{has_id_in, ids_of}
use Rattle.realm_groups.proofs.Keeping.{found_id, single_id}
use Rattle.realm_groups.proofs.Leaving.{any_single}
use Rattle.realm_groups.proofs.groups.Groups.has.Goals as goal

pub returns-clause-found : goal.returns-clause-found
returns-clause-found g c = rw (← c.self.view_is)
    (c.has.ensures
    ∙ ap (λ s. has_id_in (ids_of c.self.inside.by_session s) c.get-2.result) c.get.ensures.value
    ∙ ap (λ n. has_id_in (ids_of c.self.inside.by_session c.args.session) n) c.get-2.ensures.value
    ∙ c.self.invariant.joined c.args.session c.args.id
    ∙ ap (found_session g.G.Group.sessions_of c.args.session) (sym (found_id g.G.Group.id_of g.G.Group.pattern_of g.G.Group.sessions_of
    c.self.inside.by_id.entries c.self.inside.patterns c.self.inside.last c.self.invariant.kept c.args.id)))

pub returns-clause-any : goal.returns-clause-any
returns-clause-any g c = rw (← c.self.view_is)
    (c.has.ensures
    ∙ ap (λ s. has_id_in (ids_of c.self.inside.by_session s) c.get-2.result) c.get.ensures.value
    ∙ ap (λ n. has_id_in (ids_of c.self.inside.by_session c.args.session) n) c.get-2.ensures.value
    ∙ c.self.invariant.joined c.args.session c.args.id
    ∙ sym (any_single g.G.Group.sessions_of g.G.Group.without c.args.session (has_id g.G.Group.id_of c.args.id) c.args.id
    c.self.inside.by_id.entries c.self.invariant.kept.rising (single_id g.G.Group.id_of g.G.Group.pattern_of g.G.Group.sessions_of
    c.self.inside.by_id.entries c.self.inside.patterns c.self.inside.last c.self.invariant.kept c.args.id)))
