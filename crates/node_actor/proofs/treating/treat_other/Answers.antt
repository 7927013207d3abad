use Rattle.std.proofs.Common.{◌≡◌, ◌∙◌, [], sym, subst}
use Rattle.std.specs.Prelude.{MatchResult}
use Rattle.actor_parts.specs.Tried.{events_in}
use Rattle.node_actor.specs.Actor.{acting}
use Rattle.node_actor.specs.MidRound.{Amid, Ended}
use Rattle.node_actor.specs.Trying.{acting_before}
use Rattle.node_actor.proofs.WholeRound.{amid_at, is_other, is_self}
use Rattle.node_actor.proofs.treating.treat_other.Goals as goal

pub returns-then-from-me-clause-treats : goal.returns-then-from-me-clause-treats
returns-then-from-me-clause-treats g c own old view start at last a =
    let self : c.args.from ≡ c.args.parts.now.node.me = c.if-from-me.true ∙ c.me.ensures ∙ c.requires.trying.sound.me in
    amid_at g.M.Body.Body.same g.M.Machine.steps g.M.Machine.content g.M.Machine.loaded g.K.Keeper.holds g.K.Keeper.finds g.K.Keeper.failures own old
    view start at _ last c.args.from (events_in c.args.staged.now.tried) (acting_before c.args.parts.now c.args.seat.now) c.args.says.now.items
    c.args.came.now (is_self c.args.parts.now.node.me c.args.from at self) a

pub treat_all_of-requires-clause-peer : goal.treat_all_of-requires-clause-peer
treat_all_of-requires-clause-peer g c = (
  c.requires.member,
  λ (e : c.args.from ≡ c.args.parts.now.node.me). c.if-from-me.false (e ∙ sym c.requires.trying.sound.me ∙ sym c.me.ensures),
)

pub returns-clause-treats : goal.returns-clause-treats
returns-clause-treats g c own old view start at last a =
    let other = is_other c.args.parts.now.node.me c.args.from at
    (λ (e : c.args.from ≡ c.args.parts.now.node.me). c.if-from-me.false (e ∙ sym c.requires.trying.sound.me ∙ sym c.me.ensures)) in
    subst (λ l. MatchResult c.treat_all_of.result
    (λ _. Amid g.M.Body.Body.same g.M.Machine.steps g.M.Machine.content g.M.Machine.loaded g.K.Keeper.holds g.K.Keeper.finds g.K.Keeper.failures own
    old view start l c.args.from [] (events_in c.treat_all_of.new.staged.tried) (acting_before c.treat_all_of.new.parts c.treat_all_of.new.seat)
    c.treat_all_of.new.says.items c.treat_all_of.new.came)
    (λ fault. Ended g.M.Body.Body.same g.M.Machine.steps g.M.Machine.content g.M.Machine.loaded g.K.Keeper.holds g.K.Keeper.finds g.K.Keeper.failures
    own old view start (acting c.treat_all_of.new.parts c.treat_all_of.new.seat) c.treat_all_of.new.says.items fault))
    (sym other) (c.treat_all_of.ensures.treats own old view start at last a)
