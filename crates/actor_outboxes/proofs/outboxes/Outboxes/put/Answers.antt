use Rattle.std.proofs.Common.{subst, [], ◌∷◌}
use Rattle.actor_outboxes.specs.Outboxes.{Waiting, WaitBehind}
use Rattle.actor_outboxes.proofs.Filing.{filed_kept, put_waits}
use Rattle.actor_outboxes.proofs.outboxes.Outboxes.put.Goals as goal

pub invariant_of-self : goal.invariant_of-self
invariant_of-self g c = rw c.put_in.ensures (filed_kept _ _ _ _ c.self.invariant)

pub returns-clause-waits : goal.returns-clause-waits
returns-clause-waits g c =
    let new : Waiting g.row.B.Denot = record {
      me = c.self.inside.me;
      members = c.self.inside.members;
      boxes = c.put_in.new.boxes.items;
      next = c.saturating_add-self-inside.result;
    } in
    subst (λ (w : Waiting g.row.B.Denot). WaitBehind (c.args.packet ∷ []) w new) c.self.view_is
    (λ k peer. rw c.put_in.ensures (put_waits _ _ _ _ c.self.invariant k peer))
