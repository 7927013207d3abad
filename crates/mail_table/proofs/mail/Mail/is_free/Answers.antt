use Rattle.std.proofs.Common.{◌≡◌, rules}
use Rattle.paxos_packets.specs.Members.{IsMember}
use Rattle.mail_table.specs.Views.{box_of, only}
use Rattle.mail_table.specs.declared.part.Doing.TheVariants.{Idle}
use Rattle.mail_table.proofs.mail.Mail.is_free.Goals as goal

pub is_empty-requires-clause-may : goal.is_empty-requires-clause-may
is_empty-requires-clause-may g c =
    let size = c.self.inside.table.shared.key in
    let part = only c.seat.inside.seat.me.0 in
    let idle : part.doing ≡ Idle = search rules in
    let from : IsMember size.nodes part.me = search rules in
    let other : IsMember size.nodes c.args.to = search rules in
    let box : c.box_at-at.result ≡ box_of size.nodes part.me c.args.to = search rules in
    record { to = c.args.to; idle = idle; from = from; other = other; box = box }

pub returns-clause-found : goal.returns-clause-found
returns-clause-found g c = search rules
