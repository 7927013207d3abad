use Rattle.realm_sessions.proofs.Indexing.{indexed_pushed, indexed_back}
use Rattle.realm_sessions.proofs.connected.Connected.push.Goals as goal

pub invariant_of-self-in-Ok : goal.invariant_of-self-in-Ok
invariant_of-self-in-Ok c =
    let new = rw (← c.self.view_is) at c.requires in
    rw c.in-Ok.ensures.ok
    (indexed_pushed c.self.inside.rows c.self.inside.transports c.put.new.self c.self.inside.ids c.self.inside.count c.in-Some.place
    c.args.transport c.in-Some.ensures.above new c.in_ok-put.ensures.ok c.self.invariant)

pub invariant_of-self-in_default-push : goal.invariant_of-self-in_default-push
invariant_of-self-in_default-push c =
    let new = rw (← c.self.view_is) at c.requires in
    rw c.in_default-push.ensures.err
    (indexed_back c.self.inside.rows c.self.inside.transports c.put.new.self c.remove.new.self c.self.inside.ids
    c.self.inside.count c.in-Some.place c.args.transport new c.in_ok-put.ensures.ok c.remove.ensures c.self.invariant)
