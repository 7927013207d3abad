use Rattle.std.proofs.Common.{◌≡◌, true≢false, sym, ap, ◌∙◌}
use Rattle.std.proofs.lemmas.Slice.Eq.{bytes_eq-Decides}
use Rattle.serde_json.specs.View.{view}
use Rattle.serde_json.specs.Find.{get_member, as_bool}
use Rattle.serde_json.specs.Data.{put}
use Rattle.serde_json.proofs.Views.{get_member-put, get_member-put_other}
use Rattle.wamp_values.specs.Found.{found_by}
use Rattle.wamp_messages.proofs.flags.found_with.Goals as goal

pub returns-then-eq : goal.returns-then-eq
returns-then-eq c ms told =
    let name = c.args.name.now in
    let d = view c.args.member.now in
    let same = (bytes_eq-Decides c.args.key.now name).0 (sym c.if-eq.ensures) in
    c.truth_of.ensures ∙ sym (ap (found_by as_bool) (ap (λ k. get_member k (put name d ms)) same ∙ get_member-put name d ms))

pub returns-else-eq : goal.returns-else-eq
returns-else-eq c ms told =
    let apart = λ (h : c.args.key.now ≡ c.args.name.now). true≢false (sym ((bytes_eq-Decides c.args.key.now c.args.name.now).1 h) ∙ sym c.if-eq.ensures) in
    told ∙ sym (ap (found_by as_bool) (get_member-put_other c.args.key.now c.args.name.now (view c.args.member.now) ms apart))
