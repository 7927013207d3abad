use Rattle.actor_outboxes.proofs.Filing.{place_for, room_for, kept_first, waits_first}
use Rattle.actor_outboxes.proofs.outboxes.Outboxes.put_back.Goals as goal

pub put_first-requires-clause-place : goal.put_first-requires-clause-place
put_first-requires-clause-place g c =
    place_for _ c.args.self.now c.self.view_is c.self.invariant (record { stamp = 0; packet = c.args.packet }) c.requires.peer

pub put_first-requires-clause-room : goal.put_first-requires-clause-room
put_first-requires-clause-room g c =
    room_for _ c.args.self.now c.self.view_is c.self.invariant (record { stamp = 0; packet = c.args.packet }) c.requires.peer c.requires.room

pub invariant_of-self : goal.invariant_of-self
invariant_of-self g c =
    rw c.put_first.ensures (kept_first _ c.args.self.now c.self.view_is c.self.invariant (record { stamp = 0; packet = c.args.packet }) c.requires.peer c.requires.room)

pub returns-clause-first : goal.returns-clause-first
returns-clause-first g c =
    rw c.put_first.ensures (waits_first _ c.args.self.now c.self.view_is c.self.invariant (record { stamp = 0; packet = c.args.packet }) c.requires.peer)
