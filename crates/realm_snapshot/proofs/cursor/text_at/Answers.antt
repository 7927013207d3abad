use Rattle.std.proofs.Common.{subst, sym, ◌∙◌}
use Rattle.std.specs.Str.{IsUtf8}
use Rattle.realm_snapshot.proofs.Taking.{text_there, text_bad}
use Rattle.realm_snapshot.proofs.cursor.text_at.Goals as goal

pub returns-in-Ok : goal.returns-in-Ok
returns-in-Ok c =
    let s = c.in-Some.ensures.cases in
    let u = c.in-Ok.ensures.cases in
    text_there c.args.count c.args.octets.now c.in-Ok.text.now c.in-Some.rest.now s.0 (u.0 ∙ s.1) s.2 (subst IsUtf8 (sym u.0) u.1)

pub returns-in-Err : goal.returns-in-Err
returns-in-Err c =
    let s = c.in-Some.ensures.cases in
    text_bad c.args.count c.args.octets.now c.in-Some.text.now c.in-Some.rest.now s.0 s.1 s.2 c.in-Err.ensures.cases.0
