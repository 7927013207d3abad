use Rattle.std.proofs.Common.{◌∷◌, [], ◌++◌, sym, ap, ◌∙◌}
use Rattle.command_codec.specs.Entry.{is_boot_spelled, boot_octets}
use Rattle.command_codec.specs.Number.{number_octets, node_form, boot_form}
use Rattle.command_codec.proofs.Putting.{put_where, node_octets, boot_put}
use Rattle.command_codec.proofs.entry.put_boot.Goals as goal

pub returns : goal.returns
unfolding number_octets
returns c =
    let tag = c.args.tag in
    let old = c.args.out.now.items in
    let tagged = c.push.new.self.items in
    let noded = c.extend_from_slice.new.self.items in
    put_where tt (is_boot_spelled c.args.node c.args.boot)
    (tag ∷ boot_octets c.args.node c.args.boot) old c.extend_from_slice-2.new.self.items
    (sym c.if-not-is_boot_spelled.ensures)
    (boot_put tag (number_octets node_form c.args.node)
    (number_octets boot_form c.args.boot) old tagged noded c.extend_from_slice-2.new.self.items
    (c.in_ok-push.ensures.items ∙ ap (λ l. l ++ tag ∷ []) c.reserve.ensures.items)
    (c.in_ok-extend_from_slice.ensures.items ∙ ap (λ l. tagged ++ l) (c.to_be_bytes.ensures ∙ node_octets c.args.node c.ranges.node.fits))
    (c.in_ok-extend_from_slice-2.ensures.items ∙ ap (λ l. noded ++ l) c.to_be_bytes-2.ensures))
