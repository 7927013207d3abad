use Rattle.std.proofs.Common.{sym}
use Rattle.client_listener.specs.Handshake.{refuses}
use Rattle.client_listener.proofs.handshake.answer_handshake.Goals as goal

pub returns-in_ok-write_out-in-Refuse : goal.returns-in_ok-write_out-in-Refuse
returns-in_ok-write_out-in-Refuse g c =
    refuses c.in-Refuse.octets (sym c.in-Refuse.ensures.answer) c.in_ok-write_out-in-Refuse.ensures
