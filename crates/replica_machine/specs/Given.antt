-- Inputs and entries whose nodes, boots and transports are ones: nodes from 1 to 7, boots from 1 to 2^48 - 1, transports from 1.
use Rattle.std.specs.Prelude.{◌≡◌, Bool, true, ◌&&◌, nat_le, ℕ, List, All}
use Rattle.paxos_packets.specs.declared.entry.Entry.{Entry}
use Rattle.paxos_packets.specs.declared.entry.Entry.TheVariants.{Noop, Boot, Lost, Item}
use Rattle.paxos_packets.specs.declared.transport.Transport.{Transport}
use Rattle.replica_machine.specs.declared.input.Input.{Input}
use Rattle.replica_machine.specs.declared.input.Input.TheVariants as Given

abbrev pub is_node : ℕ → Bool
is_node n = nat_le 1 n && nat_le n 7

-- the number of a boot, and of an Item in its boot
abbrev pub is_number : ℕ → Bool
is_number b = nat_le 1 b && nat_le b 281474976710655

abbrev pub is_transport : Transport → Bool
is_transport t = is_node t.node && (is_number t.boot && nat_le 1 t.number)

abbrev pub is_given_input : {B : Type 0} → Input B → Bool
is_given_input (Given.Boot n b) = is_node n && is_number b
is_given_input (Given.Lost n b) = is_node n && is_number b
is_given_input (Given.Item t x) = is_transport t

abbrev pub IsGiven : {B : Type 0} → Input B → Type 0
IsGiven input = is_given_input input ≡ true

abbrev pub is_given_entry : {B : Type 0} → Entry B → Bool
is_given_entry Noop = true
is_given_entry (Boot n b) = is_node n && is_number b
is_given_entry (Lost n b) = is_node n && is_number b
is_given_entry (Item n b q t x) = (is_node n && (is_number b && nat_le 1 t)) && is_number q

abbrev pub AreGiven : {B : Type 0} → List (Entry B) → Type 0
AreGiven log = All (λ e. is_given_entry e ≡ true) log
