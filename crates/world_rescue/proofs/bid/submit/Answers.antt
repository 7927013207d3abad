use Rattle.std.proofs.Common.{◌≡◌, true, rules}
use Rattle.paxos_proposer.specs.Proposer.{is_leading}
use Rattle.paxos_proposer.specs.State.{role_in}
use Rattle.world_rescue.proofs.Fitting.{not_leading}
use Rattle.world_rescue.proofs.Lacking.{is_no, no_slot}
use Rattle.world_rescue.proofs.bid.submit.Goals as goal

pub returns-then-not-is_leading-clause-state : goal.returns-then-not-is_leading-clause-state
returns-then-not-is_leading-clause-state g c = not_leading c.args.entry c.args.proposer.now.state (search rules)

pub returns-in_default-clause-room : goal.returns-in_default-clause-room
returns-in_default-clause-room g c = λ h.
    let leads : is_leading (role_in c.args.proposer.now) ≡ true = search rules in
    absurd (no_slot c.args.entry (role_in c.args.proposer.now) leads (λ free. is_no (c.in_default.ensures.otherwise leads free)) h)
