use Rattle.serve_connections.proofs.Handing.{hands_over}
use Rattle.serve_connections.proofs.requests.RequestSender.put.Goals as goal

pub invariant_of-self : goal.invariant_of-self
invariant_of-self c =
    record { one = hands_over c.args.self.now.ring c.put.new.producer c.args.self.now.handing c.put.ensures.ring.0 c.args.self.now.one }
