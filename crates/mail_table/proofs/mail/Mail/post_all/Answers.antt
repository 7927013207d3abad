use Rattle.std.proofs.Common.{◌≡◌, ◌≤◌, length, rules, sym, subst}
use Rattle.cluster_world.specs.Has.{Has}
use Rattle.paxos_packets.specs.Members.{IsMember}
use Rattle.paxos_packets.specs.declared.packet.Packet.{Packet}
use Rattle.mail_table.specs.Seats.{Seated}
use Rattle.mail_table.specs.Views.{box_of, only}
use Rattle.mail_table.specs.declared.part.Doing.TheVariants.{Idle}
use Rattle.mail_table.proofs.mail.Mail.post_all.Goals as goal

pub post_in-requires-clause-may : goal.post_in-requires-clause-may
post_in-requires-clause-may g c =
    let size = c.self.inside.table.shared.key in
    let part = only c.seat.inside.seat.me.0 in
    let idle : part.doing ≡ Idle = search rules in
    let from : IsMember size.nodes part.me = search rules in
    let other : IsMember size.nodes c.args.to = search rules in
    let box : c.box_at-at.result ≡ box_of size.nodes part.me c.args.to = search rules in
    let short : length c.args.batch ≤ size.most = search rules in
    record {
      seek = record { to = c.args.to; idle = idle; from = from; other = other; box = box };
      sent = subst (λ (s : Seated g.row.B.Denot). (p : Packet g.row.B.Denot) → Has c.args.batch p → Has s.part.seen.sent p)
          (sym c.seat.view_is) c.requires.sent;
      addressed = c.requires.addressed;
      short = short;
    }

pub returns-clause-posted : goal.returns-clause-posted
returns-clause-posted g c = search rules
