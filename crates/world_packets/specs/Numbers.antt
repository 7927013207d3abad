-- The numbers of a packet: what is in it but for bodies and lists.
use Rattle.std.proofs.Math.Bool.{beq}
use Rattle.std.specs.Prelude.{ℕ, ◌-◌, Bool, true, false, ◌&&◌, ◌==◌, Option, Some, None, List, length, slice_get}
use Rattle.paxos_packets.specs.declared.ballot.Ballot.{Ballot}
use Rattle.paxos_packets.specs.declared.entry.Entry.{Entry}
use Rattle.paxos_packets.specs.declared.entry.Entry.TheVariants.{Noop, Boot, Lost, Item}
use Rattle.paxos_packets.specs.declared.packet.Kind.{Kind}
use Rattle.paxos_packets.specs.declared.packet.Kind.TheVariants.{Prepare, Promise, Accept, Accepted, Nack, Forward, Learned, Ask, Snapshot}
use Rattle.paxos_packets.specs.declared.packet.Packet.{Packet}
use Rattle.world_packets.specs.declared.numbers.EntryNumbers.{EntryNumbers}
use Rattle.world_packets.specs.declared.numbers.Numbers.{Numbers}
use Rattle.world_packets.specs.declared.numbers.Key.{Key}
use Rattle.paxos_packets.specs.Ballot.{same_ballot}

abbrev pub no_ballot : Ballot
no_ballot = record { round = 0; node = 0 }

abbrev pub entry_numbers : {B : Type 0} → Option (Entry B) → EntryNumbers
entry_numbers None = record { node = 0; boot = 0; seq = 0 }
entry_numbers (Some Noop) = record { node = 0; boot = 0; seq = 0 }
entry_numbers (Some (Boot n b)) = record { node = n; boot = b; seq = 0 }
entry_numbers (Some (Lost n b)) = record { node = n; boot = b; seq = 0 }
entry_numbers (Some (Item n b q t x)) = record { node = n; boot = b; seq = q }

abbrev pub no_entry : EntryNumbers
no_entry = record { node = 0; boot = 0; seq = 0 }

abbrev pub plain : ℕ → ℕ → Numbers
plain sender addressee =
    record {
      sender = sender;
      addressee = addressee;
      ballot = no_ballot;
      promised = no_ballot;
      slot = 0;
      is_cast = false;
      from = 0;
      floor = 0;
      count = 0;
      first = no_entry;
      last = no_entry;
    }

abbrev pub forward_numbers : {B : Type 0} → List (Entry B) → Numbers → Numbers
forward_numbers es n =
    record n { count = length es; first = entry_numbers (slice_get es 0); last = entry_numbers (slice_get es (length es - 1)) }

abbrev pub numbers_in : {B : Type 0} → ℕ → ℕ → Kind B → Numbers
numbers_in s a (Prepare b first) = record (plain s a) { ballot = b; from = first }
numbers_in s a (Promise b floor votes) = record (plain s a) { ballot = b; floor = floor }
numbers_in s a (Accept v) = record (plain s a) { ballot = v.ballot; slot = v.slot }
numbers_in s a (Accepted v) = record (plain s a) { ballot = v.ballot; slot = v.slot; is_cast = true }
numbers_in s a (Nack b p) = record (plain s a) { ballot = b; promised = p }
numbers_in s a (Forward es) = forward_numbers es (plain s a)
numbers_in s a (Learned slot e) = record (plain s a) { slot = slot }
numbers_in s a (Ask first) = record (plain s a) { from = first }
numbers_in s a (Snapshot t) = record (plain s a) { floor = t.floor }

abbrev pub numbers_of : {B : Type 0} → Packet B → Numbers
numbers_of p = numbers_in p.sender p.addressee p.kind

-- equality of keys

abbrev pub same_entry_numbers : EntryNumbers → EntryNumbers → Bool
same_entry_numbers m n = (m.node == n.node) && ((m.boot == n.boot) && (m.seq == n.seq))

abbrev pub same_numbers : Numbers → Numbers → Bool
same_numbers m n =
    (m.sender == n.sender) && ((m.addressee == n.addressee) && (same_ballot m.ballot n.ballot && (same_ballot m.promised n.promised
    && ((m.slot == n.slot) && (beq m.is_cast n.is_cast && ((m.from == n.from) && ((m.floor == n.floor)
    && ((m.count == n.count) && (same_entry_numbers m.first n.first && same_entry_numbers m.last n.last)))))))))

abbrev pub same_key : Key → Key → Bool
same_key k l = same_numbers k.numbers l.numbers && (k.ordinal == l.ordinal)
