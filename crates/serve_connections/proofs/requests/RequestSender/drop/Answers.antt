use Rattle.serve_connections.proofs.requests.RequestSender.drop.Goals as goal

pub push_reserved-requires : goal.push_reserved-requires
push_reserved-requires c = (c.args.self.one.0, c.args.self.one.1 c.in-Some.finished c.in-Some.ensures.0)
