-- What the module `laws` states of the definitions beside it, for every log.
use Rattle.std.specs.Prelude.{◌≡◌, ℕ, ◌<◌, true, false, nat_lt, List, [], ◌∷◌, ◌++◌, length, fold, Contains, if◌then◌else◌}
use Rattle.std.specs.List.{list_all, flat_map, range_with_len}
use Rattle.paxos_packets.specs.declared.entry.Entry.{Entry}
use Rattle.paxos_packets.specs.declared.entry.Entry.TheVariants.{Boot, Lost, Item}
use Rattle.replica_machine.specs.Effects.{boots_of, live_boot, is_the, is_effective, effective, items_taken, item_numbers}
use Rattle.replica_machine.specs.Roll.{standing, takes_effect, is_wanted, live_in, taken_in, effective_behind}
use Rattle.replica_machine.specs.Replay.{Machine, state, sayings, inputs_behind, sayings_behind, sayings_by_slot}

-- an entry joins those that took effect before it if it takes effect, by the places of the log
abbrev pub EffectsGoByPlaces : Type 0 → Type 0
EffectsGoByPlaces B =
    (before : List (Entry B)) (e : Entry B)
    → effective (before ++ e ∷ []) ≡ (if is_effective before e then effective before ++ e ∷ [] else effective before)

-- an entry takes effect after a log, by the places of the log, exactly if it does by its node's standing
abbrev pub EffectsAreOne : Type 0 → Type 0
EffectsAreOne B = (log : List (Entry B)) (e : Entry B) → is_effective log e ≡ takes_effect log e

-- the live boot of a node, by places, is the one of its standing
abbrev pub LiveBootsAreOne : Type 0 → Type 0
LiveBootsAreOne B = (n : ℕ) (log : List (Entry B)) → live_boot n log ≡ live_in (standing n log)

-- and the standing's count is how many Items of that boot took effect
abbrev pub ItemsTakenAreOne : Type 0 → Type 0
ItemsTakenAreOne B = (n : ℕ) (log : List (Entry B)) → items_taken n log ≡ taken_in (standing n log)

-- the entries of a longer log that take effect are those of the log, then those after it
abbrev pub EffectsGoOn : Type 0 → Type 0
EffectsGoOn B = (log es : List (Entry B)) → effective (log ++ es) ≡ effective log ++ effective_behind log es

-- the Items of one boot that take effect are numbered 1, 2, 3 and so on, in order
abbrev pub ItemsAreNumbered : Type 0 → Type 0
ItemsAreNumbered B = (n b : ℕ) (log : List (Entry B)) → item_numbers n b log ≡ range_with_len 1 (length (item_numbers n b log))

-- a machine goes on from the content that a log led to, and what it said stays said
abbrev pub StateGoesOn : Type 0 → Type 0 → Type 0 → Type 0
StateGoesOn B S Y = (m : Machine B S Y) (log es : List (Entry B)) → state m (log ++ es) ≡ fold m.next (state m log) (inputs_behind log es)

abbrev pub SayingsGoOn : Type 0 → Type 0 → Type 0 → Type 0
SayingsGoOn B S Y = (m : Machine B S Y) (log es : List (Entry B)) → sayings m (log ++ es) ≡ sayings m log ++ sayings_behind m log es

-- what it says along a log is what it says at each entry, one after the other
abbrev pub SayingsGoBySlot : Type 0 → Type 0 → Type 0 → Type 0
SayingsGoBySlot B S Y =
    (m : Machine B S Y) (log es : List (Entry B)) → flat_map (λ ys. ys) (sayings_by_slot m log es) ≡ sayings_behind m log es

-- what takes effect is no longer wanted after it
abbrev pub EffectEndsWant : Type 0 → Type 0
EffectEndsWant B = (log : List (Entry B)) (e : Entry B) → takes_effect log e ≡ true → is_wanted (log ++ e ∷ []) e ≡ false

-- an Item that is not wanted took effect: its number is among those that did
abbrev pub ItemsStayWanted : Type 0 → Type 0
ItemsStayWanted B =
    (n b q t : ℕ) (x : B) (log : List (Entry B)) → 0 < q → is_wanted log (Item n b q t x) ≡ false → Contains (item_numbers n b log) q

-- a Boot is wanted while it exceeds each Boot of its node, a Lost while it names the live boot
abbrev pub BootsStayWanted : Type 0 → Type 0
BootsStayWanted B = (n b : ℕ) (log : List (Entry B)) → is_wanted log (Boot n b) ≡ list_all (λ c. nat_lt c b) (boots_of n log)

abbrev pub LostsStayWanted : Type 0 → Type 0
LostsStayWanted B = (n b : ℕ) (log : List (Entry B)) → is_wanted log (Lost n b) ≡ is_the (live_boot n log) b
