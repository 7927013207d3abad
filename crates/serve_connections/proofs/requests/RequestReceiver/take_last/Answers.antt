use Rattle.serve_connections.proofs.requests.RequestReceiver.take_last.Goals as goal

pub invariant_of-self : goal.invariant_of-self
invariant_of-self c =
    record {
      one = c.pop_last.ensures.handed c.args.self.now.ring c.args.self.now.one;
      of_ring = c.pop_last.ensures.last c.args.self.now.ring c.args.self.now.one;
    }
