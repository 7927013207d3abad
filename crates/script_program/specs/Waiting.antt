-- Which packet a flush delivers next (docs/SCRIPTS.md, "Lines").
use Rattle.std.specs.Prelude.{ℕ, suc, zero, Bool, true, false, not, ◌&&◌, Option, Some, None, List, [], ◌∷◌, ◌++◌, if◌then◌else◌}
use Rattle.paxos_packets.specs.Members.{is_member, is_in}
use Rattle.script_program.specs.declared.player.waiting.Sent.{Sent}

-- the members, and every packet ever sent, oldest first: its ends, and whether it was delivered
pub record Packets : Type 0 where
  pub members : ℕ
  pub sent : List Sent

-- both ends are members in the set
abbrev pub is_listed : ℕ → List Bool → ℕ → Bool
is_listed members among node = is_member members node && is_in among node

abbrev pub is_due : ℕ → List Bool → Sent → Bool
is_due members among p = not p.is_delivered && (is_listed members among p.sender && is_listed members among p.addressee)

-- the place of the first packet that passes the test, if the first one has this place
abbrev pub first_from : (Sent → Bool) → ℕ → List Sent → Option ℕ
first_from test place [] = None
first_from test place (p ∷ ps) = if test p then Some place else first_from test (suc place) ps

-- the place, counted from 0, of the first packet that was not delivered and whose ends are both members in the set
abbrev pub first_due : List Bool → Packets → Option ℕ
first_due among w = first_from (is_due w.members among) 0 w.sent

-- one packet more, which was not delivered
abbrev pub with_sent : ℕ → ℕ → Packets → Packets
with_sent sender addressee w =
    record { members = w.members; sent = w.sent ++ record { sender = sender; addressee = addressee; is_delivered = false } ∷ [] }

abbrev pub mark_at : ℕ → List Sent → List Sent
mark_at place [] = []
mark_at zero (p ∷ ps) = record { sender = p.sender; addressee = p.addressee; is_delivered = true } ∷ ps
mark_at (suc place) (p ∷ ps) = p ∷ mark_at place ps

-- the packet at this place is marked as delivered, if it was sent
abbrev pub with_delivered : ℕ → Packets → Packets
with_delivered place w = record { members = w.members; sent = mark_at place w.sent }
