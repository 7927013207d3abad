-- Which entries of a log take effect, by each node's standing after the log: what a roll keeps as it goes along.
use Rattle.std.specs.Prelude.{◌≡◌, ℕ, ◌+◌, ◌<◌, Bool, true, false, not, ◌&&◌, ◌==◌, nat_lt, nat_le, Option, Some, None, List, [], ◌∷◌}
use Rattle.std.specs.Prelude.{◌++◌, fold}
use Rattle.std.specs.Prelude.{slice_index_or, if◌then◌else◌}
use Rattle.paxos_packets.specs.declared.entry.Entry.{Entry}
use Rattle.paxos_packets.specs.declared.entry.Entry.TheVariants.{Noop, Boot, Lost, Item}
use Rattle.replica_machine.specs.declared.roll.Standing.{Standing}
use Rattle.replica_machine.specs.declared.roll.Standing.TheVariants.{Unknown, Live, Gone}

-- the boot exceeds each of the node
abbrev pub is_new_boot : Standing → ℕ → Bool
is_new_boot Unknown b = true
is_new_boot (Live c taken) b = nat_lt c b
is_new_boot (Gone c) b = nat_lt c b

abbrev pub is_live : Standing → ℕ → Bool
is_live Unknown b = false
is_live (Live c taken) b = c == b
is_live (Gone c) b = false

-- the Item with this number is the next of the live boot
abbrev pub is_next : Standing → ℕ → ℕ → Bool
is_next Unknown b q = false
is_next (Live c taken) b q = (c == b) && (q == taken + 1)
is_next (Gone c) b q = false

abbrev pub gone : Standing → Standing
gone Unknown = Unknown
gone (Live b taken) = Gone b
gone (Gone b) = Gone b

-- n's standing after one more entry
abbrev pub standing_after : {B : Type 0} → ℕ → Standing → Entry B → Standing
standing_after n s Noop = s
standing_after n s (Boot k b) = if (k == n) && is_new_boot s b then Live b 0 else s
standing_after n s (Lost k b) = if (k == n) && is_live s b then gone s else s
standing_after n s (Item k b q t x) = if (k == n) && is_next s b q then Live b q else s

abbrev pub standing_from : {B : Type 0} → ℕ → Standing → List (Entry B) → Standing
standing_from n s log = fold (standing_after n) s log

-- n's standing after a log
abbrev pub standing : {B : Type 0} → ℕ → List (Entry B) → Standing
standing n log = standing_from n Unknown log

-- where each node stands after a log
abbrev pub standings : {B : Type 0} → List (Entry B) → ℕ → Standing
standings log = λ n. standing n log

-- the same from where the nodes stand: after one more entry, and after these
abbrev pub standings_after : {B : Type 0} → (ℕ → Standing) → Entry B → ℕ → Standing
standings_after stands e = λ n. standing_after n (stands n) e

abbrev pub standings_from : {B : Type 0} → (ℕ → Standing) → List (Entry B) → ℕ → Standing
standings_from stands es = λ n. standing_from n (stands n) es

-- whether an entry takes effect where the nodes stand so
abbrev pub takes_by : {B : Type 0} → (ℕ → Standing) → Entry B → Bool
takes_by stands Noop = false
takes_by stands (Boot n b) = is_new_boot (stands n) b
takes_by stands (Lost n b) = is_live (stands n) b
takes_by stands (Item n b q t x) = is_next (stands n) b q

-- whether an entry takes effect after a log
abbrev pub takes_effect : {B : Type 0} → List (Entry B) → Entry B → Bool
takes_effect log = takes_by (standings log)

-- the Item of the live boot with this number took effect
abbrev pub was_taken : Standing → ℕ → ℕ → Bool
was_taken Unknown b q = false
was_taken (Live c taken) b q = (c == b) && nat_le q taken
was_taken (Gone c) b q = false

-- whether an entry stays pending where the nodes stand so: neither a Boot nor an Item that took effect, nor a Lost whose boot isn't live
abbrev pub is_wanted_by : {B : Type 0} → (ℕ → Standing) → Entry B → Bool
is_wanted_by stands Noop = false
is_wanted_by stands (Boot n b) = is_new_boot (stands n) b
is_wanted_by stands (Lost n b) = is_live (stands n) b
is_wanted_by stands (Item n b q t x) = not (was_taken (stands n) b q)

-- whether an entry stays pending after a log
abbrev pub is_wanted : {B : Type 0} → List (Entry B) → Entry B → Bool
is_wanted log = is_wanted_by (standings log)

-- the live boot of a node with this standing
abbrev pub live_in : Standing → Option ℕ
live_in Unknown = None
live_in (Live b taken) = Some b
live_in (Gone b) = None

-- how many Items of the live boot took effect
abbrev pub taken_in : Standing → ℕ
taken_in Unknown = 0
taken_in (Live b taken) = taken
taken_in (Gone b) = 0

-- the entries of `es` that take effect after a log
abbrev pub effective_behind : {B : Type 0} → List (Entry B) → List (Entry B) → List (Entry B)
effective_behind log [] = []
effective_behind log (e ∷ es) = (if takes_effect log e then e ∷ [] else []) ++ effective_behind (log ++ e ∷ []) es

-- the node's standing by a roll: the standings of all nodes as a list, by their numbers from 0 to 255
abbrev pub standing_in : List Standing → ℕ → Standing
standing_in roll n = slice_index_or roll n Unknown

-- the roll says where each node stands
abbrev pub HasStandings : (ℕ → Standing) → List Standing → Type 0
HasStandings stands roll = (n : ℕ) → n < 256 → standing_in roll n ≡ stands n

-- the roll has each node's standing after the log
abbrev pub IsRollOf : {B : Type 0} → List (Entry B) → List Standing → Type 0
IsRollOf log = HasStandings (standings log)
