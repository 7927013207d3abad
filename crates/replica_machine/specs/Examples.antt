-- Logs whose bodies are numbers, and a machine that adds these up, for the examples of the module `laws`.
use Rattle.std.specs.Prelude.{ℕ, ◌+◌, List, [], ◌∷◌}
use Rattle.paxos_packets.specs.declared.entry.Entry.{Entry}
use Rattle.paxos_packets.specs.declared.entry.Entry.TheVariants.{Noop, Boot, Lost, Item}
use Rattle.paxos_packets.specs.declared.transport.Transport.{Transport}
use Rattle.replica_machine.specs.declared.input.Input.{Input}
use Rattle.replica_machine.specs.declared.input.Input.TheVariants as Given
use Rattle.replica_machine.specs.Replay.{Machine, Steps}
use Rattle.replica_machine.specs.Log.{machine_from}

-- a boot, then its Items 1, 1 again, 3, 2 and 3
abbrev pub items_out_of_order : List (Entry ℕ)
items_out_of_order = Boot 1 1 ∷ Item 1 1 1 1 10 ∷ Item 1 1 1 1 10 ∷ Item 1 1 3 1 30 ∷ Item 1 1 2 1 20 ∷ Item 1 1 3 1 30 ∷ []

-- an Item 2 whose Item 1 never came, as a new leader leaves it
abbrev pub item_without_first : List (Entry ℕ)
item_without_first = Boot 1 1 ∷ Noop ∷ Item 1 1 2 1 20 ∷ Boot 2 1 ∷ []

-- node 3 is lost in its boot 1 and comes back in boot 2; after each of both, entries of boot 1 come once more
abbrev pub lost_and_back : List (Entry ℕ)
lost_and_back =
    Boot 1 1 ∷ Boot 3 1 ∷ Item 3 1 1 1 10 ∷ Lost 3 1 ∷ Item 3 1 2 1 20 ∷ Lost 3 1 ∷ Boot 3 1
    ∷ Boot 3 2 ∷ Lost 3 1 ∷ Item 3 1 2 1 20 ∷ Item 3 2 1 1 40 ∷ Item 1 1 1 1 50 ∷ []

-- a machine that adds up what its acts hold, and says each sum so far to the act's transport
abbrev pub added : ℕ → Input ℕ → ℕ
added sum (Given.Boot n b) = sum
added sum (Given.Lost n b) = sum
added sum (Given.Item t x) = sum + x

abbrev pub sum_said : ℕ → Input ℕ → List (Transport × ℕ)
sum_said sum (Given.Boot n b) = []
sum_said sum (Given.Lost n b) = []
sum_said sum (Given.Item t x) = (t, sum + x) ∷ []

abbrev pub adds : Steps ℕ ℕ (Transport × ℕ)
adds = record { next = added; says = sum_said; to = λ y. y.0 }

abbrev pub adding : Machine ℕ ℕ (Transport × ℕ)
adding = machine_from adds 0

abbrev pub transport : ℕ → ℕ → ℕ → Transport
transport n b number = record { node = n; boot = b; number = number }
