-- How what was learned above a floor is kept: the places of a run of slots after it, and those of slots further ahead, of which some are
-- still free.
use Rattle.std.specs.Prelude.{ℕ, suc, Bool, true, ◌||◌, ◌==◌, nat_lt, nat_le, Option, Some, None, List, [], ◌∷◌, ◌++◌, ◌≡◌, ◌<◌, ◌^◌, length, take}
use Rattle.std.specs.Prelude.{filter}
use Rattle.std.specs.List.{list_any}
use Rattle.std.specs.Map.{keys_of}
use Rattle.paxos_packets.specs.declared.entry.Entry.{Entry}
use Rattle.paxos_learner.specs.declared.learned.LearnedEntry.{LearnedEntry}

-- a snapshot gives the slot of a log: it is not above the floor
abbrev pub is_closed : ℕ → ℕ → Bool
is_closed floor slot = nat_le slot floor

-- what callers see: the floor; the entries above it, by ascending slot; and the slots that have a place
pub record Shelf (B : Type 0) : Type 0 where
  pub floor : ℕ
  pub learned : List (LearnedEntry B)
  pub places : List ℕ

-- these entries in the slots from this one on
abbrev pub numbered : {B : Type 0} → ℕ → List (Entry B) → List (LearnedEntry B)
numbered slot [] = []
numbered slot (e ∷ es) = record { slot = slot; entry = e } ∷ numbered (suc slot) es

-- each entry in the slot that is given beside it; a free place has none
abbrev pub placed_in : {B : Type 0} → ℕ → Option (Entry B) → List (LearnedEntry B) → List (LearnedEntry B)
placed_in slot None rest = rest
placed_in slot (Some e) rest = record { slot = slot; entry = e } ∷ rest

abbrev pub placed : {B : Type 0} → List (ℕ × Option (Entry B)) → List (LearnedEntry B)
placed [] = []
placed (p ∷ ps) = placed_in p.0 p.1 (placed ps)

-- the places of a run of slots from this one on
abbrev pub places_from : {B : Type 0} → ℕ → List (Option (Entry B)) → List (ℕ × Option (Entry B))
places_from slot [] = []
places_from slot (o ∷ os) = (slot, o) ∷ places_from (suc slot) os

-- the run's, right after the floor, then those ahead of it
abbrev pub all_places : {B : Type 0} → ℕ → List (Option (Entry B)) → List (ℕ × Option (Entry B)) → List (ℕ × Option (Entry B))
all_places floor run ahead = places_from (suc floor) run ++ ahead

abbrev pub shelf_with : {B : Type 0} → ℕ → List (ℕ × Option (Entry B)) → Shelf B
shelf_with floor places = record { floor = floor; learned = placed places; places = keys_of places }

abbrev pub shelf_of : {B : Type 0} → ℕ → List (Option (Entry B)) → List (ℕ × Option (Entry B)) → Shelf B
shelf_of floor run ahead = shelf_with floor (all_places floor run ahead)

-- the first of these places is that of the slot
abbrev pub starts_at : {X : Type 0} → ℕ → List (ℕ × X) → Type 0
starts_at slot [] = ⊥
starts_at slot (p ∷ ps) = p.0 ≡ slot

-- these slots rise from above this one, and all are below 2^40
abbrev pub AreRising : {X : Type 0} → ℕ → List (ℕ × X) → Type 0
AreRising slot [] = slot < 2 ^ 40
AreRising slot (p ∷ ps) = (slot < p.0) × AreRising p.0 ps

-- so do those of learned entries
abbrev pub Rises : {B : Type 0} → ℕ → List (LearnedEntry B) → Type 0
Rises slot [] = slot < 2 ^ 40
Rises slot (l ∷ ls) = (slot < l.slot) × Rises l.slot ls

-- what was learned above the floor begins with these entries, in the slots right after it
abbrev pub Begins : {B : Type 0} → ℕ → List (Entry B) → List (LearnedEntry B) → Type 0
Begins floor log learned = take (length log) learned ≡ numbered (suc floor) log

-- what is left above a floor
abbrev pub learned_above : {B : Type 0} → ℕ → List (LearnedEntry B) → List (LearnedEntry B)
learned_above floor learned = filter (λ l. nat_lt floor l.slot) learned

abbrev pub slots_above : ℕ → List ℕ → List ℕ
slots_above floor slots = filter (λ k. nat_lt floor k) slots

-- an entry was learned in the slot, or it has a place for one
abbrev pub is_learned : {B : Type 0} → ℕ → List (LearnedEntry B) → Bool
is_learned slot learned = list_any (λ l. l.slot == slot) learned

abbrev pub has_place : {B : Type 0} → ℕ → List (LearnedEntry B) → List ℕ → Bool
has_place slot learned places = is_learned slot learned || list_any (λ k. k == slot) places

-- there is room for what is learned in the slot: a closed one needs none
abbrev pub has_room_on : {B : Type 0} → ℕ → Shelf B → Bool
has_room_on slot shelf = is_closed shelf.floor slot || has_place slot shelf.learned shelf.places

-- no slot loses its room
abbrev pub KeepsPlaces : {B : Type 0} → Shelf B → Shelf B → Type 0
KeepsPlaces old new = (slot : ℕ) → has_room_on slot old ≡ true → has_room_on slot new ≡ true
