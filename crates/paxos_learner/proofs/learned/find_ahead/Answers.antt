use Rattle.std.proofs.Common.{◌∙◌, ap}
use Rattle.std.specs.Option.{option_flatten}
use Rattle.paxos_learner.proofs.Ahead.{in_ahead}
use Rattle.paxos_learner.proofs.learned.find_ahead.Goals as goal

pub returns-in-Some : goal.returns-in-Some
returns-in-Some g c =
    c.as_ref.ensures.value ∙ ap option_flatten c.in-Some.ensures.value ∙ in_ahead c.args.number 0 c.args.ahead.now.entries c.requires

pub returns-in-None : goal.returns-in-None
returns-in-None g c = ap option_flatten c.in-None.ensures.value ∙ in_ahead c.args.number 0 c.args.ahead.now.entries c.requires
