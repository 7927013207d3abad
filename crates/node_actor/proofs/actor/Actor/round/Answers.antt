use Rattle.std.proofs.Common.{◌≡◌, true, sym, subst}
use Rattle.std.specs.Prelude.{All}
use Rattle.node_actor.specs.Actor.{Acting, acting_since}
use Rattle.node_actor.specs.Calls.{is_own}
use Rattle.node_actor.proofs.WholeRound.{round_seen}
use Rattle.node_actor.proofs.actor.Actor.round.Goals as goal

pub round-requires-clause-own : goal.round-requires-clause-own
round-requires-clause-own g c =
    subst (λ (a : Acting g.row.M-Body.Denot g.row.M.Denot g.row.K.Denot). All (λ e. is_own a.node.me e ≡ true) c.args.events.items)
    (sym c.self.view_is) c.requires.own

pub returns-clause-rounds : goal.returns-clause-rounds
returns-clause-rounds g c =
    round_seen g.M.Body.Body.same g.M.Machine.steps g.M.Machine.content g.M.Machine.loaded g.K.Keeper.holds g.K.Keeper.finds g.K.Keeper.failures
    c.self.inside.last c.self.inside.parts c.self.inside.seat c.args.self.now
    (acting_since c.round.new.last c.round.new.parts c.round.new.seat) c.args.events.items c.args.says.now.items c.round.new.says.items
    c.round.result c.self.view_is c.round.ensures.rounds
