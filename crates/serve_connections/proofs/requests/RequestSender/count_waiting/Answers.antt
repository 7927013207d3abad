use Rattle.serve_connections.proofs.Handing.{hands_over}
use Rattle.serve_connections.proofs.requests.RequestSender.count_waiting.Goals as goal

pub invariant_of-self : goal.invariant_of-self
invariant_of-self c =
    record {
      one = hands_over c.args.self.now.ring c.slots.new.self c.args.self.now.handing c.slots.ensures.looked.0.0
          c.args.self.now.one;
    }
