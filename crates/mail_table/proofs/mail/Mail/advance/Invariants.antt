use Rattle.paxos_node.specs.Adopting.{adopted}
use Rattle.mail_table.specs.Views.{only}
use Rattle.mail_table.proofs.mail.Mail.advance.Given as goal

abbrev pub ghosts-advance_as : goal.ghosts-advance_as
ghosts-advance_as g a =
    record {
      node = adopted (only a.seat.now.me.0).me a.table.now.shared.key.nodes a.outcome.now (only a.seat.now.me.0).seen.node;
      packets = a.outcome.now.packets;
    }
