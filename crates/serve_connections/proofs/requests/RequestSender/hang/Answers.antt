use Rattle.serve_connections.proofs.Handing.{hands_over}
use Rattle.serve_connections.proofs.requests.RequestSender.hang.Goals as goal

pub invariant_of-self : goal.invariant_of-self
invariant_of-self c =
    record { one = hands_over c.args.self.now.ring c.hang.new.producer c.args.self.now.handing c.hang.ensures.ring.0 c.args.self.now.one }
