-- The limits of rounds, slots and pending entries: what a rescue needs is within them.
use Rattle.std.proofs.Common.{◌≡◌, ℕ, suc, ◌+◌, ◌<◌, ◌≤◌, true, refl, arith}
use Rattle.std.specs.Prelude.{nat_lt}
use Rattle.std.proofs.lemmas.Bool.{ltb-true, leb-true}
use Rattle.paxos_proposer.specs.Proposer.{round_end, slot_end}
use Rattle.paxos_node.specs.Events.{last_number, most_pending}
use Rattle.cluster_world.specs.Rescue.{last_rescue_round, last_rescue_slot}

pub last_round : suc (suc (suc (suc last_rescue_round))) < round_end
unfolding last_rescue_round round_end
last_round = ltb-true 281474976710652 281474976710656 refl

-- a round more, and another one
pub rounds_fit : (r : ℕ) → r ≤ suc (suc last_rescue_round) → (suc r < round_end) × (suc (suc r) < round_end)
rounds_fit r l = go last_rescue_round round_end l last_round
  where
    go : (a e : ℕ) → r ≤ suc (suc a) → suc (suc (suc (suc a))) < e → (suc r < e) × (suc (suc r) < e)
    go a e h g = (omega arith, omega arith)

-- the slots of a course
pub last_slot : last_rescue_slot + (most_pending + most_pending + 3) ≤ slot_end
unfolding last_rescue_slot most_pending slot_end
last_slot = leb-true 1099511625730 1099511627776 refl

-- the slots of a first pass, and those of a second
abbrev pub first_most : ℕ
first_most = suc last_rescue_slot + most_pending

abbrev pub second_most : ℕ
second_most = first_most + most_pending

pub slots_fit : second_most ≤ slot_end
unfolding last_rescue_slot most_pending slot_end
slots_fit = leb-true 1099511625728 1099511627776 refl

pub first_slots_fit : first_most ≤ slot_end
first_slots_fit = go first_most most_pending slot_end slots_fit
  where
    go : (a c e : ℕ) → a + c ≤ e → a ≤ e
    go a c e h = omega arith

pub room_for_two : 2 ≤ most_pending
unfolding most_pending
room_for_two = leb-true 2 1024 refl

pub first_number : nat_lt 0 last_number ≡ true
unfolding last_number
first_number = refl
