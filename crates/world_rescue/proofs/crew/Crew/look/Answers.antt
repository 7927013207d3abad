use Rattle.world_rescue.proofs.Fitting.{not_spent}
use Rattle.world_rescue.proofs.Lacking.{is_no}
use Rattle.world_rescue.proofs.crew.Crew.look.Goals as goal

pub returns-in_default-clause-room : goal.returns-in_default-clause-room
returns-in_default-clause-room g c = λ round.
    absurd (is_no (c.in_default.ensures.otherwise (not_spent c.args.proposer.now.state.proposer round)))
