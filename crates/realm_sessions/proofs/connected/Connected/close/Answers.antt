use Rattle.std.proofs.Common.{None, option_copied, sym, ap, ◌∙◌}
use Rattle.realm_lists.proofs.Told.{told_somebody, told_changed, told_unchanged}
use Rattle.realm_sessions.specs.Links.{is_of}
use Rattle.realm_sessions.specs.Connected.{place_of}
use Rattle.realm_sessions.proofs.Indexing.{indexed_closed, with_this}
use Rattle.realm_sessions.proofs.connected.Connected.close.Goals as goal

pub returns-in_default : goal.returns-in_default
returns-in_default c =
    rw (← c.self.view_is)
    (sym (told_unchanged is_of (place_of c.self.inside.transports) c.self.inside.rows c.args.transport (with_this None)
    c.self.invariant.transports_index (sym c.get.ensures ∙ c.in_default.is)))

pub returns-in_default-get : goal.returns-in_default-get
returns-in_default-get c =
    absurd (told_somebody is_of (place_of c.self.inside.transports) c.self.inside.rows c.args.transport c.in-Some.place
    c.self.invariant.transports_index (sym c.get.ensures ∙ c.in-Some.is) (sym c.get-2.ensures.member ∙ ap option_copied c.in_default-get.is))

pub invariant_of-self : goal.invariant_of-self
invariant_of-self c =
    rw (c.set.ensures, c.with_session-link.ensures, c.less_one-self-inside.ensures)
    (indexed_closed c.self.inside.rows c.self.inside.transports c.self.inside.ids c.remove.new.self c.self.inside.count
    c.in-Some.place c.in-Some-get.link.now c.get-2.ensures.rising (sym c.get-2.ensures.member ∙ ap option_copied c.in-Some-get.is)
    c.remove.ensures c.self.invariant)

pub returns : goal.returns
returns c =
    rw (c.set.ensures, c.with_session-link.ensures, ← c.self.view_is)
    (sym (told_changed is_of (place_of c.self.inside.transports) c.self.inside.rows c.args.transport c.in-Some.place c.in-Some-get.link.now
    (with_this None) c.get-2.ensures.rising c.self.invariant.transports_index (sym c.get.ensures ∙ c.in-Some.is)
    (sym c.get-2.ensures.member ∙ ap option_copied c.in-Some-get.is)))
