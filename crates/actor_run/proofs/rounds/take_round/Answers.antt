use Rattle.std.proofs.Common.{◌≤◌, length, arith}
use Rattle.actor_run.proofs.RoundTaking.{held_few_events, held_own_events, round_err, round_fatal, round_ok}
use Rattle.actor_run.proofs.rounds.take_round.Goals as goal

pub returns-in-Ok-clause-own : goal.returns-in-Ok-clause-own
returns-in-Ok-clause-own g c =
    held_own_events g.M.Body.Body.same g.M.Machine.steps g.M.Machine.content g.M.Machine.loaded g.K.Keeper.holds g.K.Keeper.finds g.K.Keeper.failures
    c.replace-own.result.items c.args.actor.now c.round.new.self c.silence-says.result.items c.round.new.says.items c.in-Ok.held
    c.in-Ok.ensures.rounds (rw c.replace-own.ensures.value c.requires.own) c.in-Ok.ensures.me c.args.actor.now.seat c.stands.ensures

pub returns-in-Ok-clause-few : goal.returns-in-Ok-clause-few
returns-in-Ok-clause-few g c =
    let short : length c.in-Ok.held.items ≤ length c.args.events.now.items =
    rw (← c.replace-own.ensures.value) (held_few_events g.M.Body.Body.same g.M.Machine.steps g.M.Machine.content g.M.Machine.loaded g.K.Keeper.holds g.K.Keeper.finds g.K.Keeper.failures
    c.replace-own.result.items c.args.actor.now c.round.new.self c.silence-says.result.items c.round.new.says.items c.in-Ok.held
    c.in-Ok.ensures.rounds (rw c.replace-own.ensures.value c.requires.own) c.in-Ok.ensures.me c.args.actor.now.seat c.stands.ensures) in
    omega (arith, short, c.in-Ok.held.ok.0, c.args.events.now.ok.0, c.requires.few)

pub returns-in-Ok-clause-passes : goal.returns-in-Ok-clause-passes
returns-in-Ok-clause-passes g c = λ o u.
    round_ok g.M.Body.Body.same g.M.Machine.steps g.M.Machine.content g.M.Machine.loaded g.K.Keeper.holds g.K.Keeper.finds g.K.Keeper.failures
    c.replace-own.result.items c.args.actor.now c.round.new.self c.silence-says.result.items c.round.new.says.items c.in-Ok.held
    c.in-Ok.ensures.rounds (rw c.replace-own.ensures.value c.requires.own) c.in-Ok.ensures.me g.F.RoundFeed.saw o c.args.feed.now c.hand.new.self
    c.silence-says.ensures c.in-Ok.ensures.members c.hand.ensures (rw c.replace-own.ensures.value u)

pub returns-in-Err-clause-fatal : goal.returns-in-Err-clause-fatal
returns-in-Err-clause-fatal g c =
    round_fatal g.M.Body.Body.same g.M.Machine.steps g.M.Machine.content g.M.Machine.loaded g.K.Keeper.holds g.K.Keeper.finds g.K.Keeper.failures
    c.replace-own.result.items c.args.actor.now c.round.new.self c.silence-says.result.items c.round.new.says.items c.in-Err.fault
    c.in-Err.ensures.rounds c.args.actor.now.seat c.stands.ensures

pub returns-in-Err-clause-passes : goal.returns-in-Err-clause-passes
returns-in-Err-clause-passes g c = λ o u.
    round_err g.M.Body.Body.same g.M.Machine.steps g.M.Machine.content g.M.Machine.loaded g.K.Keeper.holds g.K.Keeper.finds g.K.Keeper.failures
    c.replace-own.result.items c.args.actor.now c.round.new.self c.silence-says.result.items c.round.new.says.items c.in-Err.fault
    c.in-Err.ensures.rounds g.F.RoundFeed.saw o c.args.feed.now c.hand-in-Err.new.self c.silence-says.ensures c.hand-in-Err.ensures
    (rw c.replace-own.ensures.value u)
