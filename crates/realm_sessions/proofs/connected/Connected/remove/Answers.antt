use Rattle.std.proofs.Common.{sym, ◌∙◌}
use Rattle.realm_lists.proofs.Finding.{kept_all}
use Rattle.realm_lists.proofs.Told.{told_none, told_somebody, told_passes, told_without}
use Rattle.realm_sessions.specs.Links.{is_of}
use Rattle.realm_sessions.specs.Connected.{place_of}
use Rattle.realm_sessions.proofs.SoundLinks.{same_is}
use Rattle.realm_sessions.proofs.Indexing.{indexed_without}
use Rattle.realm_sessions.proofs.connected.Connected.remove.Goals as goal

pub returns-in_default : goal.returns-in_default
returns-in_default c =
    rw (← c.self.view_is)
    (sym (kept_all (is_of c.args.transport) c.self.inside.rows
    (told_none (is_of c.args.transport) (place_of c.self.inside.transports c.args.transport) c.self.inside.rows
    (sym c.get.ensures ∙ c.in_default.is) (c.self.invariant.transports_index.found c.args.transport))))

pub invariant_of-self : goal.invariant_of-self
invariant_of-self c =
    absurd (told_somebody is_of (place_of c.self.inside.transports) c.self.inside.rows c.args.transport c.in-Some.place
    c.self.invariant.transports_index (sym c.get.ensures ∙ c.in-Some.is) (sym c.remove.ensures.member ∙ c.in_default-remove.is))

pub returns-in_default-remove : goal.returns-in_default-remove
returns-in_default-remove c =
    absurd (told_somebody is_of (place_of c.self.inside.transports) c.self.inside.rows c.args.transport c.in-Some.place
    c.self.invariant.transports_index (sym c.get.ensures ∙ c.in-Some.is) (sym c.remove.ensures.member ∙ c.in_default-remove.is))

pub invariant_of-self-2 : goal.invariant_of-self-2
invariant_of-self-2 c =
    let there = sym c.remove.ensures.member ∙ c.in-Some-remove.is in
    let passes = told_passes is_of (place_of c.self.inside.transports) c.self.inside.rows c.args.transport c.in-Some.place
    c.in-Some-remove.gone c.self.invariant.transports_index (sym c.get.ensures ∙ c.in-Some.is) there in
    rw (c.remove.ensures.rows, c.less_one-self-inside.ensures)
    (indexed_without c.self.inside.rows c.self.inside.transports c.remove-2.new.self c.self.inside.ids c.remove-3.new.self
    c.self.inside.count c.in-Some.place c.in-Some-remove.gone c.args.transport c.remove.ensures.rising there
    (sym (same_is c.in-Some-remove.gone.transport c.args.transport passes)) c.remove-2.ensures c.remove-3.ensures c.self.invariant)

pub returns : goal.returns
returns c =
    let told = sym c.get.ensures ∙ c.in-Some.is in
    let there = sym c.remove.ensures.member ∙ c.in-Some-remove.is in
    let passes = told_passes is_of (place_of c.self.inside.transports) c.self.inside.rows c.args.transport c.in-Some.place
    c.in-Some-remove.gone c.self.invariant.transports_index told there in
    rw (c.remove.ensures.rows, ← c.self.view_is)
    (sym (told_without (is_of c.args.transport) (place_of c.self.inside.transports c.args.transport) c.self.inside.rows c.in-Some.place
    c.in-Some-remove.gone c.remove.ensures.rising told (c.self.invariant.transports_index.found c.args.transport) there passes))
