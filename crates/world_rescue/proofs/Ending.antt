-- A roll goes on over the entries of votes, one by one, up to the loss of the node's boot.
use Rattle.std.proofs.Common.{◌≡◌, ℕ, Bool, true, false, ◌||◌, ◌+◌, ◌<◌, ◌≤◌, List, ◌∷◌, drop, length, get_or, sym, ap, ◌∙◌}
use Rattle.std.proofs.lemmas.List.{drop_all}
use Rattle.paxos_packets.specs.declared.entry.Entry.{Entry}
use Rattle.paxos_packets.specs.declared.vote.Vote.{Vote}
use Rattle.paxos_node.specs.Applying.{ends_boot, has_end}
use Rattle.paxos_node.proofs.Rolling.{rolls_on, roll_ends, rest_is}
use Rattle.replica_machine.specs.declared.roll.Standing.{Standing}
use Rattle.replica_machine.specs.Roll.{HasStandings, standings_after, standings_from, standing_in, standing_after}
use Rattle.world_rescue.specs.Course.{entries_of}

-- the roll says where the nodes stand now, from where the rest gives what the whole gives
abbrev pub Falls : {B : Type 0} → ℕ → ℕ → List Standing → List (Vote B) → (ℕ → Standing) → List (Vote B) → Type 0
Falls {B} node boot roll rest stands votes =
    (now : ℕ → Standing) × HasStandings now roll × (standings_from now (entries_of rest) ≡ standings_from stands (entries_of votes))
    × (has_end node boot (now node) (entries_of rest) ≡ has_end node boot (stands node) (entries_of votes))

pub goes_on : {B : Type 0} (node boot : ℕ) (old new : List Standing) (votes : List (Vote B)) (i : ℕ) (v : Vote B) (stands : ℕ → Standing)
    → i < length votes → v ≡ get_or votes i v
    → ((now : ℕ → Standing) → HasStandings now old → false ≡ ends_boot node boot (now node) v.entry)
    → ((n : ℕ) → n < 256 → standing_in new n ≡ standing_after n (standing_in old n) v.entry)
    → Falls node boot old (drop i votes) stands votes → Falls node boot new (drop (i + 1) votes) stands votes
goes_on {B} node boot old new votes i v stands l e never step h =
    let now : ℕ → Standing = h.0 in
    let more : List (Vote B) = drop (i + 1) votes in
    let rest : drop i votes ≡ v ∷ more = rest_is votes i v l e in (
      standings_after now v.entry,
      rolls_on now v.entry old new h.1 step,
      ap (λ (vs : List (Vote B)). standings_from now (entries_of vs)) (sym rest) ∙ h.2,
      ap (λ (b : Bool). b || has_end node boot (standing_after node (now node) v.entry) (entries_of more)) (never now h.1)
          ∙ ap (λ (vs : List (Vote B)). has_end node boot (now node) (entries_of vs)) (sym rest) ∙ h.3,
    )

pub ends_here : {B : Type 0} (node boot : ℕ) (old : List Standing) (votes : List (Vote B)) (i : ℕ) (v : Vote B) (stands : ℕ → Standing)
    → i < length votes → v ≡ get_or votes i v
    → ((now : ℕ → Standing) → HasStandings now old → true ≡ ends_boot node boot (now node) v.entry)
    → Falls node boot old (drop i votes) stands votes → true ≡ has_end node boot (stands node) (entries_of votes)
ends_here {B} node boot old votes i v stands l e does h =
    let now : ℕ → Standing = h.0 in
    let more : List (Vote B) = drop (i + 1) votes in
    let rest : drop i votes ≡ v ∷ more = rest_is votes i v l e in
    ap (λ (b : Bool). b || has_end node boot (standing_after node (now node) v.entry) (entries_of more)) (does now h.1)
    ∙ ap (λ (vs : List (Vote B)). has_end node boot (now node) (entries_of vs)) (sym rest) ∙ h.3

pub ends_not : {B : Type 0} (node boot : ℕ) (roll : List Standing) (votes : List (Vote B)) (i : ℕ) (stands : ℕ → Standing) → length votes ≤ i
    → Falls node boot roll (drop i votes) stands votes → false ≡ has_end node boot (stands node) (entries_of votes)
ends_not {B} node boot roll votes i stands l h =
    let now : ℕ → Standing = h.0 in
    ap (λ (vs : List (Vote B)). has_end node boot (now node) (entries_of vs)) (sym (drop_all i votes l)) ∙ h.3

pub rolls_over : {B : Type 0} (node boot : ℕ) (roll : List Standing) (votes : List (Vote B)) (i : ℕ) (stands : ℕ → Standing) → length votes ≤ i
    → Falls node boot roll (drop i votes) stands votes → HasStandings (standings_from stands (entries_of votes)) roll
rolls_over {B} node boot roll votes i stands l h =
    roll_ends h.0 (standings_from stands (entries_of votes)) (entries_of (drop i votes)) roll h.1 h.2
    (ap (λ (vs : List (Vote B)). entries_of vs) (drop_all i votes l))

-- the same over entries

-- where the nodes stand now, the rest has the loss if the whole has it
abbrev pub FallsIn : {B : Type 0} → ℕ → ℕ → List Standing → List (Entry B) → (ℕ → Standing) → List (Entry B) → Type 0
FallsIn {B} node boot roll rest stands entries =
    (now : ℕ → Standing) × HasStandings now roll × (has_end node boot (now node) rest ≡ has_end node boot (stands node) entries)

pub goes_in : {B : Type 0} (node boot : ℕ) (old new : List Standing) (entries : List (Entry B)) (i : ℕ) (e : Entry B) (stands : ℕ → Standing)
    → i < length entries → e ≡ get_or entries i e
    → ((now : ℕ → Standing) → HasStandings now old → false ≡ ends_boot node boot (now node) e)
    → ((n : ℕ) → n < 256 → standing_in new n ≡ standing_after n (standing_in old n) e)
    → FallsIn node boot old (drop i entries) stands entries → FallsIn node boot new (drop (i + 1) entries) stands entries
goes_in {B} node boot old new entries i e stands l is never step h =
    let now : ℕ → Standing = h.0 in
    let more : List (Entry B) = drop (i + 1) entries in (
      standings_after now e,
      rolls_on now e old new h.1 step,
      ap (λ (b : Bool). b || has_end node boot (standing_after node (now node) e) more) (never now h.1)
          ∙ ap (λ (es : List (Entry B)). has_end node boot (now node) es) (sym (rest_is entries i e l is)) ∙ h.2,
    )

pub ends_in : {B : Type 0} (node boot : ℕ) (old : List Standing) (entries : List (Entry B)) (i : ℕ) (e : Entry B) (stands : ℕ → Standing)
    → i < length entries → e ≡ get_or entries i e
    → ((now : ℕ → Standing) → HasStandings now old → true ≡ ends_boot node boot (now node) e)
    → FallsIn node boot old (drop i entries) stands entries → true ≡ has_end node boot (stands node) entries
ends_in {B} node boot old entries i e stands l is does h =
    let now : ℕ → Standing = h.0 in
    let more : List (Entry B) = drop (i + 1) entries in
    ap (λ (b : Bool). b || has_end node boot (standing_after node (now node) e) more) (does now h.1)
    ∙ ap (λ (es : List (Entry B)). has_end node boot (now node) es) (sym (rest_is entries i e l is)) ∙ h.2

pub ends_not_in : {B : Type 0} (node boot : ℕ) (roll : List Standing) (entries : List (Entry B)) (i : ℕ) (stands : ℕ → Standing) → length entries ≤ i
    → FallsIn node boot roll (drop i entries) stands entries → false ≡ has_end node boot (stands node) entries
ends_not_in {B} node boot roll entries i stands l h =
    ap (λ (es : List (Entry B)). has_end node boot (h.0 node) es) (sym (drop_all i entries l)) ∙ h.2
