use Rattle.node_actor.specs.Snapshots.{own_cut}
use Rattle.actor_run.specs.Events.{asked_in}
use Rattle.actor_run.proofs.Gathering.{cut_ends, cut_fatal}
use Rattle.actor_run.proofs.Making.{cut_goes}
use Rattle.actor_run.proofs.rounds.cut.Goals as goal

pub returns-in-Ok-clause-gathers : goal.returns-in-Ok-clause-gathers
returns-in-Ok-clause-gathers g c = λ o own u.
    cut_goes g.M.Body.Body.same g.M.Machine.steps g.M.Machine.content g.M.Machine.loaded g.F.RoundFeed.saw o g.K.Keeper.holds g.K.Keeper.finds g.K.Keeper.failures
    (asked_in o.actor.node.me own) (own_cut g.M.Machine.saved g.M.Machine.content c.args.actor.now.log) c.args.actor.now c.cut.new.self
    c.args.feed.now c.hand.new.self c.in-Ok.says c.in-Ok.ensures.cuts c.in-Ok.ensures.me c.in-Ok.ensures.members c.hand.ensures u

pub returns-in-Err-clause-gathers : goal.returns-in-Err-clause-gathers
returns-in-Err-clause-gathers g c = λ o own u.
    cut_ends g.M.Body.Body.same g.M.Machine.steps g.M.Machine.content g.M.Machine.loaded g.F.RoundFeed.saw o g.K.Keeper.holds g.K.Keeper.finds g.K.Keeper.failures
    (own_cut g.M.Machine.saved g.M.Machine.content c.args.actor.now.log) own c.args.actor.now c.cut.new.self c.args.feed.now
    c.strip_sayings.new.feed c.in-Err.fault c.strip_sayings.result c.in-Err.ensures.cuts c.strip_sayings.ensures.quiet
    c.strip_sayings.ensures.told u

-- what was handed out is what the cut said
pub returns-in-Ok-clause-cuts : goal.returns-in-Ok-clause-cuts
returns-in-Ok-clause-cuts g c = λ view stands. ((c.in-Ok.says, c.in-Ok.ensures.cuts view stands), c.hand.ensures)

pub returns-in-Err-clause-fatal : goal.returns-in-Err-clause-fatal
returns-in-Err-clause-fatal g c =
    cut_fatal g.M.Body.Body.same g.M.Machine.steps g.M.Machine.content g.M.Machine.loaded g.K.Keeper.holds g.K.Keeper.finds g.K.Keeper.failures
    (own_cut g.M.Machine.saved g.M.Machine.content c.args.actor.now.log) c.args.actor.now c.cut.new.self c.args.actor.now.seat c.in-Err.fault
    c.strip_sayings.result (c.in-Err.ensures.cuts c.args.actor.now.seat c.stands.ensures) c.strip_sayings.ensures.quiet
