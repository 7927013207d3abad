use Rattle.std.proofs.Common.{◌≡◌, true, ◌∷◌, [], ◌++◌, ap, ◌∙◌, sym, subst}
use Rattle.std.proofs.lemmas.Bool.{and_from}
use Rattle.command_codec.specs.Number.{number_octets, is_within}
use Rattle.command_codec.proofs.Putting.{put_where}
use Rattle.realm_codec.specs.Parts.{id_form}
use Rattle.realm_codec.specs.Read.{may_be_quiet, is_unfit_spelled, unfit_octets}
use Rattle.realm_codec.proofs.Putting.{unfit_put}
use Rattle.realm_codec.proofs.read.put_unfit.Goals as goal

pub returns : goal.returns
unfolding number_octets
returns c =
    let kind = c.args.kind in
    let request = c.args.request in
    let quiet = c.args.quiet in
    let old = c.args.out.now.items in
    let tagged = c.push.new.self.items in
    let kinded = c.push-2.new.self.items in
    let numbered = c.extend_from_slice.new.self.items in
    let all = c.push-3.new.self.items in
    put_where tt (is_unfit_spelled kind request quiet) (1 ∷ unfit_octets kind request quiet) old all
    (and_from (is_within id_form request) (may_be_quiet kind quiet)
    (subst (λ n. is_within id_form n ≡ true) c.get-number.ensures.value c.get-number.ensures.range)
    (sym c.if-not-may_be_quiet.ensures))
    (unfit_put kind (number_octets id_form request) quiet old tagged kinded numbered all
    (c.in_ok-push.ensures.items ∙ ap (λ l. l ++ 1 ∷ []) c.reserve.ensures.items)
    (c.in_ok-push-2.ensures.items ∙ ap (λ o. tagged ++ o ∷ []) c.kind_octet.ensures)
    (c.in_ok-extend_from_slice.ensures.items ∙ ap (λ l. kinded ++ l) (c.to_be_bytes.ensures ∙ ap (number_octets id_form)
    c.get-number.ensures.value))
    (c.in_ok-push-3.ensures.items ∙ ap (λ o. numbered ++ o ∷ []) c.from.ensures))
