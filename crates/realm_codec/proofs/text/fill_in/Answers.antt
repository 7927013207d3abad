use Rattle.std.proofs.Common.{◌≡◌, ◌+◌, ◌-◌, ◌++◌, take, drop, ap, ◌∙◌, arith}
use Rattle.std.proofs.lemmas.List.{drop-drop}
use Rattle.command_codec.specs.Number.{number_octets}
use Rattle.realm_codec.specs.Parts.{length_form}
use Rattle.realm_codec.proofs.text.fill_in.Goals as goal

pub returns : goal.returns
unfolding number_octets
returns c =
    let at = c.args.at in
    let old = c.args.octets.now in
    let four : at + (at + 4 - at) ≡ at + 4 = omega arith in
    ap (λ l. take at old ++ (l ++ drop (at + 4 - at) (drop at old))) (c.copy_from_slice.ensures.after ∙ c.to_be_bytes.ensures)
    ∙ ap (λ l. take at old ++ (number_octets length_form c.args.count ++ l)) (drop-drop (at + 4 - at) at old ∙ ap (λ n. drop n old) four)
