use Rattle.std.proofs.Common.{◌≡◌, ◌∙◌, ap, subst}
use Rattle.std.specs.Slots.{slots_items}
use Rattle.atomic_table.specs.Table.{Final, Seen}
use Rattle.mail_table.proofs.Collecting.{gathers, all_found, whole_sits}
use Rattle.mail_table.specs.Boxes.{KeptIn}
use Rattle.mail_table.specs.Seats.{parts_of}
use Rattle.mail_table.proofs.mail.Mail.collect.Goals as goal

pub returns : goal.returns
returns g c =
    let n = c.args.self.members in
    let t = c.take_in-gatherer.result in
    let ws = slots_items c.close_with.result.words in
    let xs = slots_items c.close_with.result.slots in
    let size : c.self.inside.table.shared.key ≡ record { nodes = n; most = c.args.self.most } =
    λ i. record {
      nodes = (c.self.invariant.0.count ∙ ap (λ m. m.members) c.self.view_is) i;
      most = (c.self.invariant.0.bound ∙ ap (λ m. m.most) c.self.view_is) i;
    } in
    gathers g.B.Body.same n c.args.self.most t.id t.me.0 (parts_of c.args.seats.items) ws xs
    (subst (λ k. Final (Seen (KeptIn g.B.Body.same k) t.id t.me.0) ws xs) size c.close_with.ensures.values.2) c.take_in-gatherer.ensures.knows
    (all_found n c.args.seats.items (whole_sits c.args.self c.args.seats.items c.requires.whole))
