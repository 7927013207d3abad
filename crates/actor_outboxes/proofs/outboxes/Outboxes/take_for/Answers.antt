use Rattle.std.proofs.Common.{◌∙◌, length, refl, subst, rules}
use Rattle.actor_outboxes.specs.Outboxes.{Waiting, TakenFor}
use Rattle.actor_outboxes.proofs.Filing.{below_all, left_kept, leaves_for, none_for, none_past}
use Rattle.actor_outboxes.proofs.outboxes.Outboxes.take_for.Goals as goal

pub returns-then-place-len-clause-none : goal.returns-then-place-len-clause-none
returns-then-place-len-clause-none g c = (
  refl,
  none_past c.from-place.result c.args.peer c.len.result (search rules) _ c.args.self.now c.self.view_is (c.len.ensures ∙ c.self.inside.boxes.ok.0)
      c.if-place-len.true,
)

pub take_first-requires : goal.take_first-requires
take_first-requires g c =
    below_all c.from-place.result c.len.result (length c.self.inside.boxes.items) (c.len.ensures ∙ c.self.inside.boxes.ok.0) c.if-place-len.false

pub invariant_of-self : goal.invariant_of-self
invariant_of-self g c =
    rw c.in_default.ensures.boxes (left_kept _ _ c.from-place.result _ c.self.invariant
    (below_all c.from-place.result c.len.result (length c.self.inside.boxes.items) (c.len.ensures ∙ c.self.inside.boxes.ok.0) c.if-place-len.false))

pub returns-in_default-clause-none : goal.returns-in_default-clause-none
returns-in_default-clause-none g c =
    none_for c.from-place.result c.args.peer (search rules) _ c.args.self.now c.self.view_is c.take_first.new.boxes.items c.in_default.ensures.boxes
    c.in_default.ensures.value

pub invariant_of-self-2 : goal.invariant_of-self-2
invariant_of-self-2 g c =
    rw c.take_first.ensures.boxes (left_kept _ _ c.from-place.result _ c.self.invariant
    (below_all c.from-place.result c.len.result (length c.self.inside.boxes.items) (c.len.ensures ∙ c.self.inside.boxes.ok.0) c.if-place-len.false))

pub returns-clause-some : goal.returns-clause-some
returns-clause-some g c =
    let new : Waiting g.row.B.Denot = record {
      me = c.self.inside.me;
      members = c.self.inside.members;
      boxes = c.take_first.new.boxes.items;
      next = c.self.inside.next;
    } in
    subst (λ (w : Waiting g.row.B.Denot). TakenFor c.args.peer c.packet_of.result w new) c.self.view_is
    (rw (c.packet_of.ensures, c.take_first.ensures.boxes, c.from-place.ensures) (leaves_for _ _ _ c.args.peer _ c.in-Some.stamped c.self.invariant
    (search rules) (search rules)))
