use Rattle.std.proofs.Common.{◌≡◌, ℕ, ◌≤◌, length}
use Rattle.json.specs.Json.{members, value}
use Rattle.serde_json.specs.Data.{Members, no_members}
use Rattle.serde_json.specs.Read.{of_members, converted}
use Rattle.wamp_messages.specs.Flags.{Tells}
use Rattle.wamp_messages.proofs.flags.flags_in.Given as goal

-- The members that were passed, with what the rest gives, are what the whole gives.
abbrev pub invariant-members : goal.invariant-members
invariant-members l =
    (passed : Members) × Tells l.flags passed
    × (n : ℕ) × (length l.reader ≤ n)
    × (converted (λ ms. of_members ms no_members) (members (value l.depth) (length l.initial.reader) l.initial.reader)
    ≡ converted (λ ms. of_members ms passed) (members (value l.depth) n l.reader))
    × (length l.reader ≤ length l.initial.reader)

abbrev pub decreases-members : goal.decreases-members
decreases-members l = length l.reader
