-- A machine that speaks ahead: each sum is said to its act's transport, and to the one with its number in that node's next boot.
use Rattle.std.specs.Prelude.{ℕ, ◌+◌, List, [], ◌∷◌}
use Rattle.paxos_packets.specs.declared.transport.Transport.{Transport}
use Rattle.replica_machine.specs.declared.input.Input.{Input}
use Rattle.replica_machine.specs.declared.input.Input.TheVariants as Given

-- the transport with this number in its node's next boot
abbrev pub next_one : Transport → Transport
next_one t = record { node = t.node; boot = t.boot + 1; number = t.number }

abbrev pub foretold : ℕ → Input ℕ → List (Transport × ℕ)
foretold sum (Given.Boot n b) = []
foretold sum (Given.Lost n b) = []
foretold sum (Given.Item t x) = (t, sum + x) ∷ (next_one t, sum + x) ∷ []
