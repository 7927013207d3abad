use Rattle.std.proofs.Common.{◌≡◌, ◌∷◌, [], true, false, Some, None, sym, ◌∙◌, refl, rules}
use Rattle.paxos_node.specs.declared.event.Event.TheVariants.{Deliver}
use Rattle.node_actor.proofs.Viewing.{acts_by, none_in, event_in, addressed, plans_own}
use Rattle.node_actor.proofs.event.deliver.Goals as goal

pub returns-then-not-is_for-clause-acts : goal.returns-then-not-is_for-clause-acts
returns-then-not-is_for-clause-acts g c =
    let off : c.is_for.result ≡ false = search rules in
    acts_by _ _ _ _ _ _ _ _ None c.args.parts.now c.args.seat.now _ c.pass.result
    (none_in _ _ _ c.args.parts.now c.args.packet c.requires.sound (sym c.is_for.ensures ∙ off)) c.pass.ensures.acts

pub make_event-done-requires-clause-own : goal.make_event-done-requires-clause-own
make_event-done-requires-clause-own g c = λ fresh.
    let on : c.is_for.result ≡ true = search rules in
    plans_own _ _ _ c.args.parts.now (Deliver c.args.packet) c.requires.sound fresh
    (addressed c.args.parts.now c.args.packet (sym c.is_for.ensures ∙ on)) refl (λ up. up)

pub returns-clause-acts : goal.returns-clause-acts
returns-clause-acts g c =
    let on : c.is_for.result ≡ true = search rules in
    acts_by _ _ _ _ _ _ _ _ (Some (Deliver c.args.packet)) c.args.parts.now c.args.seat.now _ c.make_event-done.result
    (event_in _ _ _ c.args.parts.now c.args.packet c.requires.sound (sym c.is_for.ensures ∙ on)) (λ v r. c.make_event-done.ensures.acts (c.args.packet ∷ []) v r)
