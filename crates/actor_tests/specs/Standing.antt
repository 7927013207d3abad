-- A node in code and what a seat knows of it.
use Rattle.std.specs.Prelude.{◌≡◌, ℕ}
use Rattle.mail_table.specs.Seats.{Mailed, Seated, Owns}
use Rattle.paxos_node.specs.Held.{Held}
use Rattle.paxos_node.specs.declared.view.Opened.TheVariants.{With}
use Rattle.paxos_packets.specs.declared.rows.Rows.{Rows}

-- the seat is the table's, and knows this node, which was opened
pub record Knows (m : Mailed) (s : Seated ℕ) (h : Held ℕ) : Type 0 where
  pub owned : Owns m s
  pub me : h.me ≡ s.part.me
  pub members : h.members ≡ m.members
  pub node : s.part.seen.node ≡ h.state
  pub rows : Rows ℕ
  pub opened : s.part.seen.opened ≡ With rows
