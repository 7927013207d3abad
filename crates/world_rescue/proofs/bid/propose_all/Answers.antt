use Rattle.std.proofs.Common.{◌≡◌, ◌∷◌, rules}
use Rattle.std.specs.Vec.Iter.{into_iter_items}
use Rattle.paxos_proposer.specs.State.{role_in}
use Rattle.world_rescue.proofs.Fitting.{all_now}
use Rattle.world_rescue.proofs.Lacking.{handed}
use Rattle.world_rescue.proofs.bid.propose_all.Goals as goal

pub returns-in_err-submit-clause-room : goal.returns-in_err-submit-clause-room
returns-in_err-submit-clause-room g c = λ h.
    let rest : into_iter_items c.loop-entry.entry-iterator ≡ c.in-Some.entry ∷ into_iter_items c.next.new.self = search rules in
    handed c.from_residual.result c.in_err-submit.field-0.0 c.from_residual.ensures.1
    (c.in_err-submit.ensures.room (all_now c.args.entries (into_iter_items c.loop-entry.entry-iterator) (into_iter_items c.next.new.self) c.in-Some.entry
    (role_in c.args.proposer.now) (role_in c.loop-entry.proposer) c.args.proposer.now.state c.loop-entry.proposer.state c.loop-entry.invariant rest h))
