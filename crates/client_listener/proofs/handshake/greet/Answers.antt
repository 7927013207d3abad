use Rattle.client_listener.proofs.Greeting.{greeted}
use Rattle.client_listener.proofs.handshake.greet.Goals as goal

pub returns : goal.returns
returns g c =
    greeted g.S.Read.remaining g.S.Write.contents c.args.room c.args.stream.now c.read_handshake.new.reader c.answer_handshake.new.writer
    c.in_ok-octets.octets c.answer_handshake.result c.in_ok-octets.ensures.0 c.in_ok-octets.ensures.1 c.answer_handshake.ensures
