-- Packets that go through boxes together, computed: for the examples of the module `laws`.
use Rattle.std.specs.Prelude.{ℕ, [], ◌∷◌}
use Rattle.paxos_packets.specs.Packet.{packet}
use Rattle.paxos_packets.specs.declared.packet.Kind.TheVariants.{Ask}
use Rattle.paxos_packets.specs.declared.packet.Packet.{Packet}
use Rattle.mail_table.specs.Views.{box_of, posting, posting_all, receiving_all, lost, unopened}
use Rattle.mail_table.specs.declared.part.Part.{Part}

-- packets from node 1 to node 2, and one to node 3, each told by a number
abbrev pub to_two : ℕ → Packet ℕ
to_two slot = packet 1 (Ask slot) 2

abbrev pub to_three : Packet ℕ
to_three = packet 1 (Ask 9) 3

abbrev pub one_of_three : ℕ
one_of_three = box_of 3 1 2

-- node 1 has posted one packet to node 2, then one to node 3, and then two to node 2; and has lost a try after that
abbrev pub poster : Part ℕ
poster =
    lost one_of_three
    (posting_all one_of_three (to_two 2 ∷ to_two 3 ∷ []) (posting (box_of 3 1 3) to_three (posting one_of_three (to_two 1) (unopened 1))))

-- node 2 has received the first two of them
abbrev pub reader : Part ℕ
reader = receiving_all one_of_three (to_two 2 ∷ []) (receiving_all one_of_three (to_two 1 ∷ []) (unopened 2))
