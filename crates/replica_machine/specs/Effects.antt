-- Which entries of a log take effect, by places in the log (docs/CONSENSUS.md, "Entries that take effect").
-- `before` is the log before a place.
use Rattle.std.specs.Prelude.{ℕ, ◌+◌, Bool, false, ◌&&◌, ◌==◌, nat_lt, Option, Some, None, option_and_then, List, [], ◌∷◌, ◌++◌, max}
use Rattle.std.specs.Prelude.{count_by, if◌then◌else◌}
use Rattle.std.specs.Option.{option_map_or}
use Rattle.std.specs.List.{list_any, list_all, filter_map, after_first, reduce}
use Rattle.paxos_packets.specs.declared.entry.Entry.{Entry}
use Rattle.paxos_packets.specs.declared.entry.Entry.TheVariants.{Noop, Boot, Lost, Item}

-- it is the Boot (n, b), the Lost (n, b), an Item of (n, b)
abbrev pub is_boot : {B : Type 0} → ℕ → ℕ → Entry B → Bool
is_boot n b Noop = false
is_boot n b (Boot k c) = (k == n) && (c == b)
is_boot n b (Lost k c) = false
is_boot n b (Item k c q t x) = false

abbrev pub is_lost : {B : Type 0} → ℕ → ℕ → Entry B → Bool
is_lost n b Noop = false
is_lost n b (Boot k c) = false
is_lost n b (Lost k c) = (k == n) && (c == b)
is_lost n b (Item k c q t x) = false

abbrev pub is_item : {B : Type 0} → ℕ → ℕ → Entry B → Bool
is_item n b Noop = false
is_item n b (Boot k c) = false
is_item n b (Lost k c) = false
is_item n b (Item k c q t x) = (k == n) && (c == b)

-- the boot that the entry begins, if it is a Boot of n
abbrev pub boot_begun : {B : Type 0} → ℕ → Entry B → Option ℕ
boot_begun n Noop = None
boot_begun n (Boot k b) = if k == n then Some b else None
boot_begun n (Lost k b) = None
boot_begun n (Item k b q t x) = None

-- the boots in n's Boots
abbrev pub boots_of : {B : Type 0} → ℕ → List (Entry B) → List ℕ
boots_of n before = filter_map (boot_begun n) before

abbrev pub greatest : List ℕ → Option ℕ
greatest bs = reduce max bs

-- a Lost of the boot is between the boot's first Boot and the place
abbrev pub lost_since : {B : Type 0} → ℕ → ℕ → List (Entry B) → Bool
lost_since n b before = list_any (is_lost n b) (after_first (is_boot n b) before)

-- the live boot of n: the greatest boot in n's Boots, unless a Lost of that boot is between its first Boot and the place
abbrev pub live_boot : {B : Type 0} → ℕ → List (Entry B) → Option ℕ
live_boot n before = option_and_then (λ b. if lost_since n b before then None else Some b) (greatest (boots_of n before))

abbrev pub is_the : Option ℕ → ℕ → Bool
is_the None b = false
is_the (Some c) b = c == b

-- whether an entry takes effect, where `so_far` are those before it that took effect: a Boot that exceeds each earlier Boot of its
-- node; a Lost that names the live boot; an Item of the live boot whose number is one more than that of the boot's Items so far
abbrev pub has_effect : {B : Type 0} → List (Entry B) → List (Entry B) → Entry B → Bool
has_effect before so_far Noop = false
has_effect before so_far (Boot n b) = list_all (λ c. nat_lt c b) (boots_of n before)
has_effect before so_far (Lost n b) = is_the (live_boot n before) b
has_effect before so_far (Item n b q t x) = is_the (live_boot n before) b && (q == count_by (is_item n b) so_far + 1)

-- those that took effect before the entries after `before`, and then those of these
abbrev pub effective_from : {B : Type 0} → List (Entry B) → List (Entry B) → List (Entry B) → List (Entry B)
effective_from before so_far [] = so_far
effective_from before so_far (e ∷ es) =
    effective_from (before ++ e ∷ []) (if has_effect before so_far e then so_far ++ e ∷ [] else so_far) es

-- the entries of a log that take effect, in order
abbrev pub effective : {B : Type 0} → List (Entry B) → List (Entry B)
effective log = effective_from [] [] log

-- whether an entry takes effect after a log
abbrev pub is_effective : {B : Type 0} → List (Entry B) → Entry B → Bool
is_effective before e = has_effect before (effective before) e

-- which entries of a log take effect, place by place
abbrev pub effects_from : {B : Type 0} → List (Entry B) → List (Entry B) → List Bool
effects_from before [] = []
effects_from before (e ∷ es) = is_effective before e ∷ effects_from (before ++ e ∷ []) es

abbrev pub effects : {B : Type 0} → List (Entry B) → List Bool
effects log = effects_from [] log

-- how many Items of n's live boot took effect, none if it has no live boot
abbrev pub items_taken : {B : Type 0} → ℕ → List (Entry B) → ℕ
items_taken n before = option_map_or (λ b. count_by (is_item n b) (effective before)) (live_boot n before) 0

-- the number of an Item of (n, b)
abbrev pub item_number : {B : Type 0} → ℕ → ℕ → Entry B → Option ℕ
item_number n b Noop = None
item_number n b (Boot k c) = None
item_number n b (Lost k c) = None
item_number n b (Item k c q t x) = if (k == n) && (c == b) then Some q else None

-- the numbers of the Items of (n, b) that take effect in a log, in order
abbrev pub item_numbers : {B : Type 0} → ℕ → ℕ → List (Entry B) → List ℕ
item_numbers n b log = filter_map (item_number n b) (effective log)
