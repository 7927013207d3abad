-- Nodes by hand, of three members, for a body that is a number.
use Rattle.std.specs.Prelude.{ℕ, Bool, ◌==◌, Option, Some, List, [], replicate}
use Rattle.paxos_packets.specs.Packet.{packet}
use Rattle.paxos_packets.specs.declared.ballot.Ballot.{Ballot}
use Rattle.paxos_packets.specs.declared.entry.Entry.TheVariants.{Noop, Boot}
use Rattle.paxos_packets.specs.declared.packet.Kind.TheVariants.{Promise}
use Rattle.paxos_packets.specs.declared.rows.Change.{Change}
use Rattle.paxos_packets.specs.declared.vote.Vote.{Vote}
use Rattle.paxos_proposer.specs.Role.{Leading}
use Rattle.paxos_node.specs.declared.event.Event.{Event}
use Rattle.paxos_node.specs.declared.event.Event.TheVariants.{Take, Start, Deliver}
use Rattle.paxos_planning.specs.Node.{NodeState, Plan}
use Rattle.paxos_planning.specs.Plan.{with_role, with_pending}
use Rattle.paxos_packets.specs.Rows.{first_rows, no_change}
use Rattle.paxos_node.specs.Applying.{started}
use Rattle.paxos_node.specs.Events.{outcome_of, is_full_refused}

abbrev pub same_number : ℕ → ℕ → Bool
same_number m n = m == n

abbrev pub after : Event ℕ → NodeState ℕ → Plan ℕ
after e x = outcome_of same_number 3 e x

abbrev pub ballot : ℕ → ℕ → Ballot
ballot round node = record { round = round; node = node }

abbrev pub boot_vote : Vote ℕ
boot_vote = record { slot = 1; ballot = ballot 1 1; entry = Boot 1 1 }

abbrev pub change : Option Ballot → List (Vote ℕ) → Change ℕ
change promised votes = record (no_change {B = ℕ}) { promised = promised; votes = votes }

-- node 1, in its first state, preparing, and leading
abbrev pub first_node : NodeState ℕ
first_node = started 1 first_rows

abbrev pub asked : Plan ℕ
asked = after (Start 1) first_node

abbrev pub led : Plan ℕ
led = after (Deliver (packet 2 (Promise (ballot 1 1) 0 []) 1)) asked.node

-- node 1 with this promise
abbrev pub promised_to : ℕ → ℕ → NodeState ℕ
promised_to round node = started 1 (record (first_rows {B = ℕ}) { promised = Some (ballot round node) })

-- node 1 with this many pending entries
abbrev pub waiting : ℕ → NodeState ℕ
waiting n = with_pending (replicate n Noop) first_node

abbrev pub takes_refused : NodeState ℕ → Bool
takes_refused x = is_full_refused same_number (Take 1 1 5) x

-- node 1, leading in the ballot (1, 1), with this slot next
abbrev pub leading_at : ℕ → NodeState ℕ
leading_at next = with_pending [] (with_role (Leading (ballot 1 1) next []) (promised_to 1 1))
