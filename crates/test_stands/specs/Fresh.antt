-- Seats that a table was founded with.
use Rattle.std.specs.Prelude.{◌≡◌}
use Rattle.mail_table.specs.Seats.{Mailed, Seated, Owns}
use Rattle.paxos_node.specs.declared.view.Opened.TheVariants.{Never}
use Rattle.paxos_packets.specs.Members.{IsMember}

-- the seat is the table's, of a member that nobody opened
abbrev pub IsFresh : {B : Type 0} → Mailed → Seated B → Type 0
IsFresh m s = Owns m s × (s.part.seen.opened ≡ Never) × IsMember m.members s.part.me
