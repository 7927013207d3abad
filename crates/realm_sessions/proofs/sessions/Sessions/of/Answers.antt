use Rattle.std.proofs.Common.{◌≡◌, Err, Some, rules, sym, subst, ap, ◌∙◌, List}
use Rattle.realm_sessions.specs.Apart.{put_all}
use Rattle.realm_sessions.specs.declared.links.Link.{Link}
use Rattle.realm_sessions.specs.Restoring.{Becomes, Restores, is_misnumbered, clash, sessions_of}
use Rattle.realm_sessions.proofs.PutLinks.{none_made, all_made}
use Rattle.realm_sessions.proofs.sessions.Sessions.of.Goals as goal

pub returns-in_err-put_links : goal.returns-in_err-put_links
returns-in_err-put_links c =
    let fault = c.in_err-put_links.field-0.0 in
    let given : c.from_residual.result ≡ Err fault = search rules in
    subst (λ r. Restores r (sessions_of c.args.limit c.args.links.now)) (sym given)
    (none_made fault c.args.limit c.args.links.now c.put_links.new.held
    (subst (λ (held : List Link). Becomes (Err fault) c.put_links.new.held (put_all is_misnumbered clash held c.args.links.now)) c.new-held.ensures
    c.in_err-put_links.ensures))

pub returns : goal.returns
returns c =
    subst (λ s. sessions_of c.args.limit c.args.links.now ≡ Some s) (sym c.holding.ensures)
    (all_made c.args.limit c.args.links.now c.put_links.new.held
    (ap (λ (held : List Link). put_all is_misnumbered clash held c.args.links.now) (sym c.new-held.ensures) ∙ c.in_ok-put_links.ensures))
