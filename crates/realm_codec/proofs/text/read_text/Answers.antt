use Rattle.std.proofs.Common.{◌≡◌, ◌≢◌, Ok, Err, sym, subst}
use Rattle.std.specs.Prelude.{IfOk, IfErr}
use Rattle.command_codec.specs.declared.fault.CodecFault.TheVariants.{Memory}
use Rattle.realm_codec.specs.Text.{text_reading}
use Rattle.realm_codec.proofs.Texts.{text_taken, text_refused}
use Rattle.realm_codec.proofs.text.read_text.Goals as goal

pub returns-clause-taken : goal.returns-clause-taken
returns-clause-taken c =
    let text = c.args.text.now in
    subst (λ r. IfOk r (λ x. text_reading text ≡ Ok x)) (sym c.and.ensures)
    (text_taken text c.in-Ok.read c.check_written.result c.in-Ok.ensures c.check_written.ensures.written)

pub returns-clause-fault : goal.returns-clause-fault
returns-clause-fault c =
    let text = c.args.text.now in
    subst (λ r. IfErr r (λ f. f ≢ Memory → text_reading text ≡ Err f)) (sym c.and.ensures)
    (text_refused text c.in-Ok.read c.check_written.result c.in-Ok.ensures c.check_written.ensures.fault)
