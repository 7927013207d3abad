-- Entries as octets (docs/CONSENSUS.md, "Entry bytes"): a tag, the entry's numbers, and an Item's body.
use Rattle.std.specs.Prelude.{ℕ, Bool, ◌&&◌, ◌==◌, Option, Some, None, List, [], ◌∷◌, ◌++◌, Result, Ok, Err, if◌then◌else◌}
use Rattle.paxos_packets.specs.declared.entry.Entry.{Entry}
use Rattle.paxos_packets.specs.declared.entry.Entry.TheVariants.{Noop, Boot, Lost, Item}
use Rattle.command_codec.specs.declared.fault.CodecFault.{CodecFault}
use Rattle.command_codec.specs.declared.fault.CodecFault.TheVariants.{Short, Tag, Rest}
use Rattle.command_codec.specs.Coder.{and_then}
use Rattle.command_codec.specs.Number.{Reading, number_octets, number_reading, is_within, node_form, boot_form, seq_form, transport_form}

-- a Boot or a Lost after its tag
abbrev pub boot_octets : ℕ → ℕ → List ℕ
boot_octets node boot = number_octets node_form node ++ number_octets boot_form boot

abbrev pub is_boot_spelled : ℕ → ℕ → Bool
is_boot_spelled node boot = is_within node_form node && is_within boot_form boot

abbrev pub boot_spelling : ℕ → ℕ → ℕ → Option (List ℕ)
boot_spelling tag node boot = if is_boot_spelled node boot then Some (tag ∷ boot_octets node boot) else None

-- an Item's numbers after its tag
abbrev pub item_octets : ℕ → ℕ → ℕ → ℕ → List ℕ
item_octets node boot seq transport = boot_octets node boot ++ (number_octets seq_form seq ++ number_octets transport_form transport)

abbrev pub is_item_spelled : ℕ → ℕ → ℕ → ℕ → Bool
is_item_spelled node boot seq transport = is_boot_spelled node boot && is_within seq_form seq && is_within transport_form transport

-- an Item's tag and its numbers
abbrev pub numbers_spelling : ℕ → ℕ → ℕ → ℕ → Option (List ℕ)
numbers_spelling node boot seq transport =
    if is_item_spelled node boot seq transport then Some (3 ∷ item_octets node boot seq transport) else None

-- one after the other
abbrev pub joined : Option (List ℕ) → Option (List ℕ) → Option (List ℕ)
joined None behind = None
joined (Some front) None = None
joined (Some front) (Some behind) = Some (front ++ behind)

abbrev pub item_spelling : ℕ → ℕ → ℕ → ℕ → Option (List ℕ) → Option (List ℕ)
item_spelling node boot seq transport body = joined (numbers_spelling node boot seq transport) body

-- the one spelling of an entry, given those of bodies; none if a number is out of its range or the body has none
abbrev pub entry_spelling : {B : Type 0} → (B → Option (List ℕ)) → Entry B → Option (List ℕ)
entry_spelling spelling Noop = Some (0 ∷ [])
entry_spelling spelling (Boot node boot) = boot_spelling 1 node boot
entry_spelling spelling (Lost node boot) = boot_spelling 2 node boot
entry_spelling spelling (Item node boot seq transport body) = item_spelling node boot seq transport (spelling body)

-- the numbers of a Boot or a Lost
abbrev pub boot_front : List ℕ → Reading (ℕ × ℕ)
boot_front octets =
    and_then (number_reading node_form octets) (λ node rest.
    and_then (number_reading boot_form rest) (λ boot rest. Ok ((node, boot), rest)))

abbrev pub item_front : {B : Type 0} → (List ℕ → Reading B) → List ℕ → Reading (Entry B)
item_front reading octets =
    and_then (boot_front octets) (λ of rest.
    and_then (number_reading seq_form rest) (λ seq rest.
    and_then (number_reading transport_form rest) (λ transport rest.
    and_then (reading rest) (λ body rest. Ok (Item of.0 of.1 seq transport body, rest)))))

-- the entry at the head of octets
abbrev pub entry_front : {B : Type 0} → (List ℕ → Reading B) → List ℕ → Reading (Entry B)
entry_front reading [] = Err Short
entry_front reading (tag ∷ octets) =
    if tag == 0 then Ok (Noop, octets)
    else (if tag == 1 then and_then (boot_front octets) (λ of rest. Ok (Boot of.0 of.1, rest))
    else (if tag == 2 then and_then (boot_front octets) (λ of rest. Ok (Lost of.0 of.1, rest))
    else (if tag == 3 then item_front reading octets
    else Err Tag)))

-- nothing may follow
abbrev pub whole_of : {A : Type 0} → A → List ℕ → Result A CodecFault
whole_of value [] = Ok value
whole_of value (octet ∷ octets) = Err Rest

abbrev pub whole : {A : Type 0} → Reading A → Result A CodecFault
whole (Ok read) = whole_of read.0 read.1
whole (Err fault) = Err fault

-- the entry that the octets are, or the fault of the first one that is wrong
abbrev pub entry_reading : {B : Type 0} → (List ℕ → Reading B) → List ℕ → Result (Entry B) CodecFault
entry_reading reading octets = whole (entry_front reading octets)
