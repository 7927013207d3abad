use Rattle.paxos_node.specs.Events.{outcome_of}
use Rattle.mail_table.specs.Views.{only}
use Rattle.mail_table.proofs.mail.Mail.advance_by.Given as goal

abbrev pub ghosts-advance_by_as : goal.ghosts-advance_by_as
ghosts-advance_by_as g a =
    record {
      node = (outcome_of g.B.Body.same a.table.now.shared.key.nodes a.event.now (only a.seat.now.me.0).seen.node).node;
      packets = (outcome_of g.B.Body.same a.table.now.shared.key.nodes a.event.now (only a.seat.now.me.0).seen.node).packets;
    }
