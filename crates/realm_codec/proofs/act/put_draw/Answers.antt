use Rattle.std.proofs.Common.{◌≡◌, true, ◌∷◌, [], ◌++◌, ap, ◌∙◌, subst}
use Rattle.command_codec.specs.Number.{number_octets, is_within}
use Rattle.command_codec.proofs.Putting.{put_where}
use Rattle.realm_codec.specs.Parts.{id_form}
use Rattle.realm_codec.proofs.Putting.{two_put}
use Rattle.realm_codec.proofs.act.put_draw.Goals as goal

pub returns : goal.returns
unfolding number_octets
returns c =
    let old = c.args.out.now.items in
    let tagged = c.push.new.self.items in
    let all = c.extend_from_slice.new.self.items in
    let octets = number_octets id_form c.args.draw in
    put_where tt (is_within id_form c.args.draw) (2 ∷ octets) old all
    (subst (λ n. is_within id_form n ≡ true) c.get-number.ensures.value c.get-number.ensures.range)
    (two_put (2 ∷ []) octets old tagged all
    (c.in_ok-push.ensures.items ∙ ap (λ l. l ++ 2 ∷ []) c.reserve.ensures.items)
    (c.in_ok-extend_from_slice.ensures.items ∙ ap (λ l. tagged ++ l) (c.to_be_bytes.ensures ∙ ap (number_octets id_form)
    c.get-number.ensures.value)))
