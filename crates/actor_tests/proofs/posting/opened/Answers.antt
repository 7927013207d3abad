use Rattle.std.proofs.Common.{◌≡◌, ◌∙◌, ap, sym}
use Rattle.mail_table.specs.Views.{opened_with}
use Rattle.paxos_node.specs.Applying.{started}
use Rattle.paxos_packets.specs.declared.rows.Rows.{Rows}
use Rattle.actor_tests.proofs.posting.opened.Goals as goal

pub returns : goal.returns
returns c =
    let r = c.in_ok-renew.ensures.renewed in
    let rows : Rows _ = c.args.rows in
    let me = c.in_ok-of.ensures.me ∙ c.node.ensures in
    record {
      owned = c.in_ok-renew.ensures.still_owned;
      me = me;
      members = c.in_ok-of.ensures.members ∙ c.requires.members;
      node = ap (λ s. s.part.seen.node) r ∙ (ap (λ k. started k rows) (sym (c.node.ensures ∙ ap (λ s. s.part.me) r)) ∙ sym c.in_ok-of.ensures.state);
      rows = rows;
      opened = ap (λ s. s.part.seen.opened) r ∙ ap (opened_with rows) c.requires.never;
    }
