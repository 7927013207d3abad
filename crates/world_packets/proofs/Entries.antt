-- The numbers of the entry at an index.
use Rattle.std.proofs.Common.{◌≡◌, ℕ, ◌<◌, ◌≤◌, refl, sym, ap, ◌∙◌, List, length, get_or, Some, None}
use Rattle.std.specs.Prelude.{slice_get}
use Rattle.std.proofs.lemmas.Option.{slice_get_read, slice_get_past}
use Rattle.paxos_packets.specs.declared.entry.Entry.{Entry}
use Rattle.world_packets.specs.Numbers.{entry_numbers}

pub numbers_at : {B : Type 0} (entries : List (Entry B)) (i : ℕ) (x e : Entry B) → i < length entries → x ≡ get_or entries i x → x ≡ e
    → entry_numbers (Some e) ≡ entry_numbers (slice_get entries i)
numbers_at entries i x e l there is =
    ap (λ o. entry_numbers o) (sym (slice_get_read entries (length entries) i x refl l there ∙ ap (λ y. Some y) is))

pub numbers_past : {B : Type 0} (entries : List (Entry B)) (i : ℕ) → length entries ≤ i → entry_numbers {B = B} None ≡ entry_numbers (slice_get entries i)
numbers_past entries i l = ap (λ o. entry_numbers o) (sym (slice_get_past entries i l))
