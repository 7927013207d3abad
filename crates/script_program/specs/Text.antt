-- The lines of a world's text, as a script's run writes them (docs/SCRIPTS.md, "What is printed").
use Rattle.std.specs.Prelude.{ℕ, ◌+◌, ◌==◌, Bool, true, false, List, [], ◌∷◌, ◌++◌, codes, drop, if◌then◌else◌}
use Rattle.std.specs.Fmt.{decimal}
use Rattle.std.specs.List.{flat_map}
use Rattle.paxos_packets.specs.declared.entry.Entry.{Entry}
use Rattle.paxos_packets.specs.declared.entry.Entry.TheVariants.{Noop, Boot, Lost, Item}
use Rattle.paxos_packets.specs.declared.transport.Transport.{Transport}
use Rattle.replica_machine.specs.Effects.{effects}
use Rattle.realm_machine.specs.declared.sayings.say.Out.{Out}
use Rattle.realm_machine.specs.declared.sayings.say.Out.TheVariants.{Send, Close}
use Rattle.wamp_messages.specs.Writing.{text_of}

-- each number after a space
abbrev pub numbers_text : List ℕ → List ℕ
numbers_text numbers = flat_map (λ n. 32 ∷ decimal n) numbers

abbrev pub effect_text : Bool → List ℕ
effect_text true = codes " took"
effect_text false = codes " skipped"

-- ---- a line of a log

-- a slot, the name of its entry, the entry's numbers, and whether it took effect
abbrev pub named_text : ℕ → List ℕ → List ℕ → Bool → List ℕ
named_text slot name numbers took = decimal slot ++ (name ++ (numbers_text numbers ++ (effect_text took ++ 10 ∷ [])))

abbrev pub entry_text : {B : Type 0} → ℕ → Entry B → Bool → List ℕ
entry_text slot Noop took = decimal slot ++ (codes " noop" ++ 10 ∷ [])
entry_text slot (Boot n b) took = named_text slot (codes " boot") (n ∷ b ∷ []) took
entry_text slot (Lost n b) took = named_text slot (codes " lost") (n ∷ b ∷ []) took
entry_text slot (Item n b seq t x) took = named_text slot (codes " item") (n ∷ b ∷ seq ∷ t ∷ []) took

-- the entries from this slot on, with whether each took effect
abbrev pub log_from : {B : Type 0} → ℕ → List (Entry B) → List Bool → List ℕ
log_from slot [] took = []
log_from slot (e ∷ es) [] = []
log_from slot (e ∷ es) (took ∷ others) = entry_text slot e took ++ log_from (slot + 1) es others

-- a node's floor; none is written without a snapshot
abbrev pub floor_text : ℕ → List ℕ
floor_text floor = if floor == 0 then [] else decimal floor ++ (codes " snapshot" ++ 10 ∷ [])

-- a whole log: its floor, and then its entries above that, slot by slot
abbrev pub log_text : {B : Type 0} → ℕ → List (Entry B) → List ℕ
log_text floor log = floor_text floor ++ log_from (floor + 1) (drop floor log) (drop floor (effects log))

-- ---- a node; of one that is down this is all

abbrev pub up_text : Bool → List ℕ
up_text true = codes " up"
up_text false = codes " down"

abbrev pub first_text : ℕ → Bool → List ℕ
first_text n up = codes "node" ++ (numbers_text (n ∷ []) ++ (up_text up ++ 10 ∷ []))

-- with its floor and its whole log
abbrev pub node_text : {B : Type 0} → ℕ → Bool → ℕ → List (Entry B) → List ℕ
node_text n up floor log = first_text n up ++ (if up then log_text floor log else [])

-- ---- what a transport was handed

abbrev pub out_text : Out → List ℕ
out_text (Send message) = text_of message
out_text Close = codes "close"

abbrev pub said_text : Transport → Out → List ℕ
said_text t out = codes "to" ++ (numbers_text (t.node ∷ t.boot ∷ t.number ∷ []) ++ (32 ∷ (out_text out ++ 10 ∷ [])))

abbrev pub handed_text : Transport → List Out → List ℕ
handed_text t outs = flat_map (said_text t) outs
