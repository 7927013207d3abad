use Rattle.std.proofs.Common.{◌≡◌, true, Some, refl, subst, sym, ap}
use Rattle.std.specs.Prelude.{option_to_list}
use Rattle.node_actor.specs.Actor.{Acting, acting}
use Rattle.node_actor.specs.Calls.{is_own}
use Rattle.node_actor.specs.Views.{received_by}
use Rattle.node_actor.proofs.Viewing.{plans_event, owned_event, acts_seen}
use Rattle.node_actor.proofs.Bringing.{own_is_other}
use Rattle.node_actor.proofs.actor.Actor.event.Goals as goal

pub make_event-requires-clause-own : goal.make_event-requires-clause-own
make_event-requires-clause-own g c = λ fresh.
    plans_event _ _ _ c.self.inside.parts c.args.event.now c.self.invariant.0 fresh
    (subst (λ (a : Acting g.row.M-Body.Denot g.row.M.Denot g.row.K.Denot). is_own a.node.me c.args.event.now ≡ true) (sym c.self.view_is)
    c.requires.own)

pub make_event-requires-clause-other : goal.make_event-requires-clause-other
make_event-requires-clause-other g c = own_is_other c.args.self.now.node.me c.args.event.now c.requires.own

pub returns-clause-acts : goal.returns-clause-acts
returns-clause-acts g c =
    let own : is_own c.self.inside.parts.node.me c.args.event.now ≡ true =
    subst (λ (a : Acting g.row.M-Body.Denot g.row.M.Denot g.row.K.Denot). is_own a.node.me c.args.event.now ≡ true) (sym c.self.view_is)
    c.requires.own in
    acts_seen _ _ _ _ _ _ _ (λ me members. Some c.args.event.now) (Some c.args.event.now) c.self.inside.last c.self.inside.parts
    c.self.inside.seat _ (acting c.make_event.new.parts c.make_event.new.seat) _ refl
    (ap option_to_list (owned_event c.self.inside.parts.node.me c.args.event.now own).2) c.self.view_is
    (λ v r. c.make_event.ensures.acts (received_by (Some c.args.event.now)) v r)
