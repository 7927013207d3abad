-- Nothing is applied after the floor.
use Rattle.replica_machine.specs.Snapshot.{loaded_log}
use Rattle.replica_follower.specs.Following.{up_to}
use Rattle.replica_follower.proofs.Holding.{loaded_held, loaded_none}
use Rattle.replica_follower.proofs.Loading.{made_follows}
use Rattle.replica_follower.proofs.follower.Follower.renew.Goals as goal

pub invariant_of-self : goal.invariant_of-self
invariant_of-self g c =
    loaded_held g.M.Machine.content (loaded_log g.M.Machine.loaded c.args.octets.now) c.in-Ok.applied c.in-Ok.ensures.loaded

pub returns-in-Ok-clause-loaded : goal.returns-in-Ok-clause-loaded
returns-in-Ok-clause-loaded g c = λ alive.
    loaded_none g.M.Machine.content (loaded_log g.M.Machine.loaded c.args.octets.now) c.in-Ok.applied c.in-Ok.ensures.loaded

pub returns-in-Ok-clause-follows : goal.returns-in-Ok-clause-follows
returns-in-Ok-clause-follows g c = λ first under given loads alive.
    let machine = g.M.Machine in
    let made = loaded_log machine.loaded c.args.octets.now in
    made_follows machine.steps machine.content first under made (up_to 0 c.in-Ok.applied) given loads
    (loaded_none machine.content made c.in-Ok.applied c.in-Ok.ensures.loaded)
