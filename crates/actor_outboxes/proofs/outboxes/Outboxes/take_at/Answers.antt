use Rattle.std.proofs.Common.{◌≡◌, List, length, Option, Some, sym, subst}
use Rattle.std.specs.Prelude.{slice_get}
use Rattle.actor_outboxes.specs.Outboxes.{Waiting, box_of, IsOldestBelow, Leaves}
use Rattle.actor_outboxes.proofs.Filing.{left_kept, leaves}
use Rattle.actor_outboxes.proofs.outboxes.Outboxes.take_at.Goals as goal

pub invariant_of-self-2 : goal.invariant_of-self-2
invariant_of-self-2 g c =
    let best : IsOldestBelow (length c.self.inside.boxes.items) c.self.inside.boxes.items (Some c.args.first) =
    subst (λ (w : Waiting g.row.B.Denot). IsOldestBelow (length w.boxes) w.boxes (Some c.args.first)) (sym c.self.view_is) c.requires in
    rw c.take_first.ensures.boxes (left_kept _ _ c.args.first.place _ c.self.invariant best.0)

pub returns-clause-taken : goal.returns-clause-taken
returns-clause-taken g c =
    let new : Waiting g.row.B.Denot = record {
      me = c.self.inside.me;
      members = c.self.inside.members;
      boxes = c.take_first.new.boxes.items;
      next = c.self.inside.next;
    } in
    let best : IsOldestBelow (length c.self.inside.boxes.items) c.self.inside.boxes.items (Some c.args.first) =
    subst (λ (w : Waiting g.row.B.Denot). IsOldestBelow (length w.boxes) w.boxes (Some c.args.first)) (sym c.self.view_is) c.requires in
    subst (λ (w : Waiting g.row.B.Denot). Leaves c.packet_of.result w new) c.self.view_is
    (rw (c.packet_of.ensures, c.take_first.ensures.boxes) (leaves _ _ _ _ c.args.first _ c.self.invariant best (sym c.in-Some.ensures.value)))
