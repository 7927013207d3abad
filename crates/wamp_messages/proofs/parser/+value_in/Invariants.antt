use Rattle.std.proofs.Common.{◌≡◌, ℕ, ◌+◌, ◌*◌, ◌≤◌, length}
use Rattle.json.specs.Json.{items, members, value, parse_map}
use Rattle.serde_json.specs.Data.{no_members}
use Rattle.serde_json.specs.Read.{of_items, of_members, converted}
use Rattle.serde_json.specs.View.{members_view}
use Rattle.wamp_messages.specs.Outermost.{before}
use Rattle.wamp_messages.proofs.parser.+value_in.Given as goal

abbrev pub decreases-value_in : goal.decreases-value_in
decreases-value_in l = 3 * l.depth

abbrev pub decreases-items_in : goal.decreases-items_in
decreases-items_in l = 3 * l.depth + 2

abbrev pub decreases-more_items : goal.decreases-more_items
decreases-more_items l = 3 * l.depth + 1

abbrev pub decreases-members_in : goal.decreases-members_in
decreases-members_in l = 3 * l.depth + 1

-- What is found, before what the rest gives, is what the whole gives.
abbrev pub invariant-more_items-items : goal.invariant-more_items-items
invariant-more_items-items l =
    ((m : ℕ) → length l.initial.reader ≤ m
    → (n : ℕ) × (length l.reader ≤ n)
    × (parse_map (before l.fn.found.items) (converted of_items (items (value l.depth) m l.initial.reader))
    ≡ parse_map (before l.all.items) (converted of_items (items (value l.depth) n l.reader))))
    × (length l.reader ≤ length l.initial.reader)

abbrev pub decreases-more_items-items : goal.decreases-more_items-items
decreases-more_items-items l = length l.reader

abbrev pub invariant-members_in-members : goal.invariant-members_in-members
invariant-members_in-members l =
    (n : ℕ) × (length l.reader ≤ n)
    × (converted (λ ms. of_members ms no_members) (members (value l.depth) (length l.initial.reader) l.initial.reader)
    ≡ converted (λ ms. of_members ms (members_view l.found.entries)) (members (value l.depth) n l.reader))
    × (length l.reader ≤ length l.initial.reader)

abbrev pub decreases-members_in-members : goal.decreases-members_in-members
decreases-members_in-members l = length l.reader
