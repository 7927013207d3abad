-- The loads before a claim and a fetch (docs/THREADS.md, "Boxes").
use Rattle.std.specs.Prelude.{◌≡◌, ℕ, Bool, List, [], ◌∷◌, slice_index, slice_set}
use mathlib.Core.Option.{some, none}
use lib.ListN.{get_elem?}
use Rattle.atomic_table.specs.Table.{State, step}
use Rattle.paxos_packets.specs.Members.{IsMember}
use Rattle.mail_table.specs.declared.part.Part.{Part}
use Rattle.mail_table.specs.Boxes.{Kept, Placed, Sat, sits, Seeks}
use Rattle.mail_table.specs.Views.{box_of}

-- whichever word is wanted and whatever is found in it, each word and each slot is as it was, and the rule holds; the seat's view is as it
-- was, or has one lost try more
abbrev pub LoadsLeaveTheTable : Type 0 → Type 0
LoadsLeaveTheTable B =
    (same : B → B → Bool) (n most slots wanted id a b : ℕ) (x : Part B) (s : State (Placed B) (List (Part B))) → IsMember n a → IsMember n b
    → IsMember n x.me → Kept same n most s → get_elem? s.views id ≡ some (x ∷ [])
    → (w : Sat B) × Seeks wanted (step slots (box_of n a b) 0 0 none) (sits x []) (slice_index s.words (box_of n a b)) w
    × Kept same n most (record { words = s.words; homes = s.homes; views = slice_set s.views id w.0 })
