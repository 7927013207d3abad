use Rattle.std.proofs.Common.{◌≡◌, ◌-◌, ℕ, Option}
use Rattle.paxos_packets.specs.Members.{IsMember}
use Rattle.paxos_packets.specs.declared.packet.Packet.{Packet}
use Rattle.mail_table.specs.Seats.{Owns, knows}
use Rattle.mail_table.specs.declared.part.Part.{Part}
use Rattle.node_actor.specs.Turns.{Fetches, others_from, round}
use Rattle.node_actor.proofs.fetching.fetch_round.Given as goal

abbrev pub invariant-loop-step : goal.invariant-loop-step
invariant-loop-step g l =
    IsMember l.members l.from × (l.seat ≡ knows l.seat.part l.initial.seat) × (l.seat.part.me ≡ l.initial.seat.part.me) × Owns l.mail l.seat
    × ((got : Option (ℕ × Packet g.row.B.Denot)) (y : Part g.row.B.Denot)
    → Fetches l.members (others_from l.initial.seat.part.me l.members l.from (l.members - l._step)) l.seat.part got y
    → Fetches l.members (round l.initial.seat.part.me l.members l.fn.first) l.initial.seat.part got y)
