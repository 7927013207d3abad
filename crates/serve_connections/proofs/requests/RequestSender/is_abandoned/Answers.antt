use Rattle.serve_connections.proofs.Handing.{hands_over}
use Rattle.serve_connections.proofs.requests.RequestSender.is_abandoned.Goals as goal

pub invariant_of-self : goal.invariant_of-self
invariant_of-self c =
    record {
      one = hands_over c.args.self.now.ring c.is_abandoned.new.self c.args.self.now.handing c.is_abandoned.ensures.0.0
          c.args.self.now.one;
    }
