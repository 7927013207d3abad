use Rattle.std.proofs.Common.{sym, ◌∙◌}
use Rattle.realm_lists.proofs.Told.{told_none, told_member}
use Rattle.realm_sessions.specs.Links.{has_id}
use Rattle.realm_sessions.specs.Connected.{place_with}
use Rattle.realm_sessions.proofs.connected.Connected.link_with.Goals as goal

pub returns-in_default : goal.returns-in_default
returns-in_default c =
    let ok = c.self.invariant in
    let told = sym c.find.ensures ∙ c.in_default.is in
    rw (← c.self.view_is)
    (sym (told_none (has_id c.args.id) (place_with c.self.inside.ids c.args.id) c.self.inside.rows told (ok.ids_index.found c.args.id)))

pub returns : goal.returns
returns c =
    let ok = c.self.invariant in
    let told = sym c.find.ensures ∙ c.in-Some.is in
    rw (← c.self.view_is)
    (c.get.ensures.member
    ∙ sym (told_member (has_id c.args.id) (place_with c.self.inside.ids c.args.id) c.self.inside.rows c.in-Some.place c.get.ensures.rising told
    (ok.ids_index.found c.args.id) (ok.ids_index.told c.args.id c.in-Some.place told)))
