use Rattle.std.proofs.Common.{◌∙◌, Ok, List, ap, reverse, subst}
use Rattle.std.proofs.lemmas.List.{reverse-reverse}
use Rattle.paxos_node.specs.declared.event.Event.{Event}
use Rattle.actor_parts.specs.Tried.{events_in}
use Rattle.node_actor.specs.Actor.{acting}
use Rattle.node_actor.specs.MidRound.{Ended, MakesOwn}
use Rattle.node_actor.specs.Trying.{acting_before}
use Rattle.node_actor.proofs.making.make_own.Goals as goal

-- the list was turned round twice

pub returns-in-Err-clause-makes : goal.returns-in-Err-clause-makes
returns-in-Err-clause-makes g c =
    subst (λ (es : List (Event g.row.M-Body.Denot)). Ended g.M.Body.Body.same g.M.Machine.steps g.M.Machine.content g.M.Machine.loaded
    g.K.Keeper.holds g.K.Keeper.finds g.K.Keeper.failures es (acting_before c.args.parts.now c.args.seat.now) c.args.seat.now c.args.says.now.items
    (acting c.make_all.new.parts c.make_all.new.seat) c.make_all.new.says.items c.in-Err.fault)
    (ap (λ (es : List (Event g.row.M-Body.Denot)). reverse es) c.reverse.ensures.items ∙ reverse-reverse c.args.own.items) c.in-Err.ensures.makes

pub returns-clause-makes : goal.returns-clause-makes
returns-clause-makes g c =
    let made = subst (λ (es : List (Event g.row.M-Body.Denot)). MakesOwn g.M.Body.Body.same g.M.Machine.steps g.M.Machine.content
    g.M.Machine.loaded g.K.Keeper.holds g.K.Keeper.finds g.K.Keeper.failures es (acting_before c.args.parts.now c.args.seat.now)
    c.args.says.now.items (events_in c.make_all.new.staged.tried) (acting_before c.make_all.new.parts c.make_all.new.seat)
    c.make_all.new.says.items (Ok c.in_default.field-0) (reverse c.make_all.new.own.items))
    (ap (λ (es : List (Event g.row.M-Body.Denot)). reverse es) c.reverse.ensures.items ∙ reverse-reverse c.args.own.items)
    c.in_default.ensures.makes in
    (made.0, c.reverse-2.ensures.items ∙ made.1)
