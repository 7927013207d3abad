use Rattle.std.proofs.Common.{◌∷◌, [], ◌++◌, sym, ap, ◌∙◌}
use Rattle.command_codec.specs.Entry.{is_item_spelled, item_octets}
use Rattle.command_codec.specs.Number.{number_octets, node_form, boot_form, seq_form, transport_form}
use Rattle.command_codec.proofs.Putting.{put_where, node_octets, item_put}
use Rattle.command_codec.proofs.entry.put_numbers.Goals as goal

pub returns : goal.returns
unfolding number_octets
returns c =
    let old = c.args.out.now.items in
    let tagged = c.push.new.self.items in
    let noded = c.extend_from_slice.new.self.items in
    let booted = c.extend_from_slice-2.new.self.items in
    let numbered = c.extend_from_slice-3.new.self.items in
    let all = c.extend_from_slice-4.new.self.items in
    put_where tt (is_item_spelled c.args.node c.args.boot c.args.seq c.args.transport)
    (3 ∷ item_octets c.args.node c.args.boot c.args.seq c.args.transport) old all
    (sym c.if-not-is_item_spelled.ensures)
    (item_put 3 (number_octets node_form c.args.node) (number_octets boot_form c.args.boot) (number_octets seq_form c.args.seq)
    (number_octets transport_form c.args.transport) old tagged noded booted numbered all
    (c.in_ok-push.ensures.items ∙ ap (λ l. l ++ 3 ∷ []) c.reserve.ensures.items)
    (c.in_ok-extend_from_slice.ensures.items ∙ ap (λ l. tagged ++ l) (c.to_be_bytes.ensures ∙ node_octets c.args.node c.ranges.node.fits))
    (c.in_ok-extend_from_slice-2.ensures.items ∙ ap (λ l. noded ++ l) c.to_be_bytes-2.ensures)
    (c.in_ok-extend_from_slice-3.ensures.items ∙ ap (λ l. booted ++ l) c.to_be_bytes-3.ensures)
    (c.in_ok-extend_from_slice-4.ensures.items ∙ ap (λ l. numbered ++ l) c.to_be_bytes-4.ensures))
