use Rattle.realm_calls.proofs.PutCalls.{apart}
use Rattle.realm_calls.proofs.restoring.add_call.Goals as goal

pub push-requires-clause-new : goal.push-requires-clause-new
push-requires-clause-new c = (apart c.args.held.now c.args.call.now c.requires).0

pub push-requires-clause-free : goal.push-requires-clause-free
push-requires-clause-free c = (apart c.args.held.now c.args.call.now c.requires).1
