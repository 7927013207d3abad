use Rattle.std.proofs.Common.{◌≡◌, false, Some, sym, ap, subst, OnOk, ◌∙◌, ◌++◌, ◌∷◌, [], List}
use Rattle.realm_sessions.specs.declared.links.Link.{Link}
use Rattle.realm_sessions.specs.Links.{by_transport, is_taken, set_session}
use Rattle.realm_sessions.proofs.PutLinks.{apart, stands_alone, still_free, free_of_others, put_whole, without_session}
use Rattle.realm_sessions.proofs.restoring.add_link.Goals as goal

pub push-requires : goal.push-requires
push-requires c = (apart c.args.held.now c.args.link.now c.requires).0

pub add_session-requires-clause-there : goal.add_session-requires-clause-there
add_session-requires-clause-there c =
    ap (λ (links : List Link). by_transport links c.args.link.now.transport) c.in_ok-push.ensures.ok
    ∙ stands_alone c.args.held.now c.args.link.now.transport (apart c.args.held.now c.args.link.now c.requires).0

pub add_session-requires-clause-new : goal.add_session-requires-clause-new
add_session-requires-clause-new c =
    ap (λ (links : List Link). is_taken links c.in-Some.session.id) c.in_ok-push.ensures.ok
    ∙ still_free c.args.held.now c.args.link.now.transport c.in-Some.session.id
    (free_of_others c.args.held.now c.args.link.now c.in-Some.session c.requires c.in-Some.is)

pub returns-in-Some-clause-ok : goal.returns-in-Some-clause-ok
returns-in-Some-clause-ok c =
    subst (λ (l : List Link). OnOk c.add_session.result (c.add_session.new.held ≡ l))
    (ap (λ (links : List Link). set_session links c.args.link.now.transport (Some c.in-Some.session)) c.in_ok-push.ensures.ok
    ∙ put_whole c.args.held.now c.args.link.now c.in-Some.session (apart c.args.held.now c.args.link.now c.requires).0 c.in-Some.is)
    c.add_session.ensures.ok
