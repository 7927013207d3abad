use Rattle.std.proofs.Common.{◌≡◌, true, false, None, Some, is_some, sym, ap, ◌∙◌}
use Rattle.std.specs.List.{list_any}
use Rattle.realm_lists.proofs.Finding.{any_is_find}
use Rattle.realm_lists.proofs.Told.{is_some_mapped}
use Rattle.realm_sessions.specs.declared.links.Link.{Link}
use Rattle.realm_sessions.specs.Links.{is_of, has_id, is_connected, is_taken}
use Rattle.realm_sessions.proofs.PutLinks.{clash_here, clash_by_session, clash_by_none}
use Rattle.realm_sessions.proofs.restoring.clashes.Goals as goal

pub returns-then-is_some : goal.returns-then-is_some
returns-then-is_some c =
    let here : is_connected c.args.held.now c.args.link.now.transport ≡ true =
    any_is_find (is_of c.args.link.now.transport) c.args.held.now ∙ ap is_some (sym c.link_of.ensures)
    ∙ is_some_mapped (λ link. link.now) c.link_of.result ∙ sym c.is_some.ensures ∙ c.if-is_some.true in
    sym (clash_here c.args.held.now c.args.link.now here)

pub returns-in-Some : goal.returns-in-Some
returns-in-Some c =
    let none : is_connected c.args.held.now c.args.link.now.transport ≡ false =
    any_is_find (is_of c.args.link.now.transport) c.args.held.now ∙ ap is_some (sym c.link_of.ensures)
    ∙ is_some_mapped (λ link. link.now) c.link_of.result ∙ sym c.is_some.ensures ∙ c.if-is_some.false in
    c.is_some-in-Some.ensures ∙ sym (is_some_mapped (λ link. link.now) c.link_with.result) ∙ ap is_some c.link_with.ensures
    ∙ sym (any_is_find (has_id c.in-Some.session.id) c.args.held.now)
    ∙ sym (clash_by_session c.args.held.now c.args.link.now c.in-Some.session none c.in-Some.is)

pub returns-in-None : goal.returns-in-None
returns-in-None c =
    let none : is_connected c.args.held.now c.args.link.now.transport ≡ false =
    any_is_find (is_of c.args.link.now.transport) c.args.held.now ∙ ap is_some (sym c.link_of.ensures)
    ∙ is_some_mapped (λ link. link.now) c.link_of.result ∙ sym c.is_some.ensures ∙ c.if-is_some.false in
    sym (clash_by_none c.args.held.now c.args.link.now none c.in-None.is)
