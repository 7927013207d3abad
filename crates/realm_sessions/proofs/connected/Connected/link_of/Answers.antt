use Rattle.std.proofs.Common.{sym, ◌∙◌}
use Rattle.realm_lists.proofs.Told.{told_none, told_member}
use Rattle.realm_sessions.specs.Links.{is_of}
use Rattle.realm_sessions.specs.Connected.{place_of}
use Rattle.realm_sessions.proofs.connected.Connected.link_of.Goals as goal

pub returns-in_default : goal.returns-in_default
returns-in_default c =
    rw (← c.self.view_is)
    (sym (told_none (is_of c.args.transport) (place_of c.self.inside.transports c.args.transport) c.self.inside.rows
    (sym c.get.ensures ∙ c.in_default.is) (c.self.invariant.transports_index.found c.args.transport)))

pub returns : goal.returns
returns c =
    let told = sym c.get.ensures ∙ c.in-Some.is in
    rw (← c.self.view_is)
    (c.get-2.ensures.member
    ∙ sym (told_member (is_of c.args.transport) (place_of c.self.inside.transports c.args.transport) c.self.inside.rows c.in-Some.place
    c.get-2.ensures.rising told (c.self.invariant.transports_index.found c.args.transport)
    (c.self.invariant.transports_index.told c.args.transport c.in-Some.place told)))
