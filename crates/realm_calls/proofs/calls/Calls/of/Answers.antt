use Rattle.std.proofs.Common.{◌≡◌, Err, Some, rules, sym, subst, ap, ◌∙◌, List}
use Rattle.realm_sessions.specs.Apart.{put_all}
use Rattle.realm_sessions.specs.Restoring.{Becomes, Restores}
use Rattle.realm_calls.specs.declared.calls.Open.{Open}
use Rattle.realm_calls.specs.Restoring.{is_faulty, clash, calls_of}
use Rattle.realm_calls.proofs.PutCalls.{none_made, all_made}
use Rattle.realm_calls.proofs.calls.Calls.of.Goals as goal

pub returns-in_err-put_calls : goal.returns-in_err-put_calls
returns-in_err-put_calls c =
    let fault = c.in_err-put_calls.field-0.0 in
    let given : c.from_residual.result ≡ Err fault = search rules in
    subst (λ r. Restores r (calls_of c.args.limit c.args.calls.now)) (sym given)
    (none_made fault c.args.limit c.args.calls.now c.put_calls.new.held
    (subst (λ (held : List Open). Becomes (Err fault) c.put_calls.new.held (put_all is_faulty clash held c.args.calls.now)) c.new-held.ensures
    c.in_err-put_calls.ensures))

pub returns : goal.returns
returns c =
    subst (λ s. calls_of c.args.limit c.args.calls.now ≡ Some s) (sym c.holding.ensures)
    (all_made c.args.limit c.args.calls.now c.put_calls.new.held
    (ap (λ (held : List Open). put_all is_faulty clash held c.args.calls.now) (sym c.new-held.ensures) ∙ c.in_ok-put_calls.ensures))
