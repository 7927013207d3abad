use Rattle.std.proofs.Common.{◌≡◌, Err, Some, rules, sym, subst, ap, ◌∙◌}
use Rattle.realm_sessions.specs.Restoring.{Becomes, Restores}
use Rattle.realm_groups.specs.Groups.{Listed}
use Rattle.realm_registrations.specs.declared.registration.Registration.{Registration}
use Rattle.realm_registrations.specs.Restoring.{registrations_of, put_whole}
use Rattle.realm_registrations.proofs.PutRegistrations.{none_made, all_made}
use Rattle.realm_registrations.proofs.registrations.Registrations.of.Goals as goal

pub returns-in_err-put_whole : goal.returns-in_err-put_whole
returns-in_err-put_whole c =
    let fault = c.in_err-put_whole.field-0.0 in
    let given : c.from_residual.result ≡ Err fault = search rules in
    subst (λ r. Restores r (registrations_of c.args.limit c.args.list.now c.args.last)) (sym given)
    (none_made fault c.args.limit c.args.list.now c.args.last c.put_whole.new.groups
    (subst (λ (held : Listed Registration). Becomes (Err fault) c.put_whole.new.groups (put_whole held c.args.list.now c.args.last))
    c.new-groups.ensures c.in_err-put_whole.ensures))

pub returns : goal.returns
returns c =
    subst (λ s. registrations_of c.args.limit c.args.list.now c.args.last ≡ Some s) (sym c.holding.ensures)
    (all_made c.args.limit c.args.list.now c.args.last c.put_whole.new.groups
    (ap (λ (held : Listed Registration). put_whole held c.args.list.now c.args.last) (sym c.new-groups.ensures) ∙ c.in_ok-put_whole.ensures))
