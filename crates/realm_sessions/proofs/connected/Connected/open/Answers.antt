use Rattle.std.proofs.Common.{Some, option_copied, sym, ap, ◌∙◌}
use Rattle.realm_lists.proofs.Told.{told_somebody, told_changed, told_unchanged}
use Rattle.realm_sessions.specs.Links.{is_of}
use Rattle.realm_sessions.specs.Connected.{place_of}
use Rattle.realm_sessions.proofs.Indexing.{indexed_opened, with_this, is_without}
use Rattle.realm_sessions.proofs.connected.Connected.open.Goals as goal

pub returns-in_default-clause-ok : goal.returns-in_default-clause-ok
returns-in_default-clause-ok c =
    rw (← c.self.view_is)
    (sym (told_unchanged is_of (place_of c.self.inside.transports) c.self.inside.rows c.args.transport (with_this (Some c.args.session))
    c.self.invariant.transports_index (sym c.get.ensures ∙ c.in_default.is)))

pub returns-in_default-get : goal.returns-in_default-get
returns-in_default-get c =
    absurd (told_somebody is_of (place_of c.self.inside.transports) c.self.inside.rows c.args.transport c.in-Some.place
    c.self.invariant.transports_index (sym c.get.ensures ∙ c.in-Some.is) (sym c.get-2.ensures.member ∙ ap option_copied c.in_default-get.is))

pub invariant_of-self-2 : goal.invariant_of-self-2
invariant_of-self-2 c =
    let there = sym c.get-2.ensures.member ∙ ap option_copied c.in-Some-get.is in
    let at = rw (← c.self.view_is) at c.requires.there in
    let free = rw (← c.self.view_is) at c.requires.new in
    rw (c.set.ensures, c.with_session-link.ensures)
    (indexed_opened c.self.inside.rows c.self.inside.transports c.self.inside.ids c.put.new.self c.self.inside.count
    c.in-Some.place c.in-Some-get.link.now c.args.session c.get-2.ensures.rising there
    (is_without c.self.inside.rows (place_of c.self.inside.transports) c.args.transport c.in-Some.place c.in-Some-get.link.now
    c.get-2.ensures.rising c.self.invariant.transports_index (sym c.get.ensures ∙ c.in-Some.is) there at)
    free c.in_ok-put.ensures.ok c.self.invariant)

pub returns-clause-ok : goal.returns-clause-ok
returns-clause-ok c =
    rw (c.set.ensures, c.with_session-link.ensures, ← c.self.view_is)
    (sym (told_changed is_of (place_of c.self.inside.transports) c.self.inside.rows c.args.transport c.in-Some.place c.in-Some-get.link.now
    (with_this (Some c.args.session)) c.get-2.ensures.rising c.self.invariant.transports_index (sym c.get.ensures ∙ c.in-Some.is)
    (sym c.get-2.ensures.member ∙ ap option_copied c.in-Some-get.is)))
