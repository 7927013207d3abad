use Rattle.std.proofs.Common.{option_copied, sym, ap, ◌∙◌}
use Rattle.realm_lists.proofs.Told.{told_somebody, told_changed, told_unchanged}
use Rattle.realm_sessions.specs.Links.{has_id}
use Rattle.realm_sessions.specs.Connected.{place_with}
use Rattle.realm_sessions.proofs.Indexing.{indexed_invoked, with_last}
use Rattle.realm_sessions.proofs.connected.Connected.invoke.Goals as goal

pub returns-in_default : goal.returns-in_default
returns-in_default c =
    let ok = c.self.invariant in
    rw (← c.self.view_is)
    (sym (told_unchanged has_id (place_with c.self.inside.ids) c.self.inside.rows c.args.id (with_last c.args.invocation) ok.ids_index
    (sym c.find.ensures ∙ c.in_default.is)))

pub returns-in_default-get : goal.returns-in_default-get
returns-in_default-get c =
    let ok = c.self.invariant in
    absurd (told_somebody has_id (place_with c.self.inside.ids) c.self.inside.rows c.args.id c.in-Some.place ok.ids_index
    (sym c.find.ensures ∙ c.in-Some.is)
    (sym c.get.ensures.member ∙ ap option_copied c.in_default-get.is))

pub invariant_of-self : goal.invariant_of-self
invariant_of-self c =
    rw (c.set.ensures, c.with_invocation-link.ensures)
    (indexed_invoked c.self.inside.rows c.self.inside.transports c.self.inside.ids c.self.inside.count c.in-Some.place
    c.in-Some-get.link.now c.args.invocation c.get.ensures.rising (sym c.get.ensures.member ∙ ap option_copied c.in-Some-get.is)
    c.self.invariant)

pub returns : goal.returns
returns c =
    let ok = c.self.invariant in
    rw (c.set.ensures, c.with_invocation-link.ensures, ← c.self.view_is)
    (sym (told_changed has_id (place_with c.self.inside.ids) c.self.inside.rows c.args.id c.in-Some.place c.in-Some-get.link.now
    (with_last c.args.invocation) c.get.ensures.rising ok.ids_index (sym c.find.ensures ∙ c.in-Some.is)
    (sym c.get.ensures.member ∙ ap option_copied c.in-Some-get.is)))
