-- The end of a boot among entries in two parts, and what is pending after both.
use Rattle.std.proofs.Common.{◌≡◌, ℕ, suc, Bool, true, false, ◌||◌, List, [], ◌∷◌, ◌++◌, take}
use Rattle.std.proofs.Common.{refl, ◌∙◌}
use Rattle.std.specs.Prelude.{filter, if◌then◌else◌}
use Rattle.std.proofs.lemmas.List.Sums.{fold-append}
use Rattle.paxos_packets.specs.declared.entry.Entry.{Entry}
use Rattle.replica_machine.specs.declared.roll.Standing.{Standing}
use Rattle.replica_machine.specs.declared.roll.Standing.TheVariants.{Unknown}
use Rattle.replica_machine.specs.Roll.{standing, standing_from, standing_after, standings_from, standings_after, is_wanted_by}
use Rattle.paxos_node.specs.Adopting.{pending_behind}
use Rattle.paxos_node.specs.Applying.{ends_boot, count_to_end, has_end}

-- the end of a boot in a list of two parts

pub has_end_both : {B : Type 0} (me boot : ℕ) (s : Standing) (es fs : List (Entry B))
    → has_end me boot s (es ++ fs) ≡ (has_end me boot s es || has_end me boot (standing_from me s es) fs)
has_end_both me boot s [] fs = refl
has_end_both {B} me boot s (e ∷ es) fs = go (ends_boot me boot s e) (has_end_both me boot (standing_after me s e) es fs)
  where
    go : (b : Bool) → has_end me boot (standing_after me s e) (es ++ fs)
        ≡ (has_end me boot (standing_after me s e) es || has_end me boot (standing_from me (standing_after me s e) es) fs)
        → (b || has_end me boot (standing_after me s e) (es ++ fs))
        ≡ ((b || has_end me boot (standing_after me s e) es) || has_end me boot (standing_from me (standing_after me s e) es) fs)
    go true h = refl
    go false h = h

-- up to its end a list ends the boot if it does
pub end_within : {B : Type 0} (me boot : ℕ) (s : Standing) (es : List (Entry B)) → has_end me boot s (take (count_to_end me boot s es) es)
    ≡ has_end me boot s es
end_within me boot s [] = refl
end_within {B} me boot s (e ∷ es) = go (ends_boot me boot s e) refl (end_within me boot (standing_after me s e) es)
  where
    go : (b : Bool) → ends_boot me boot s e ≡ b
        → has_end me boot (standing_after me s e) (take (count_to_end me boot (standing_after me s e) es) es) ≡ has_end me boot
        (standing_after me s e) es
        → has_end me boot s (take (if b then 1 else suc (count_to_end me boot (standing_after me s e) es)) (e ∷ es))
        ≡ (b || has_end me boot (standing_after me s e) es)
    go true q h = λ i. q i || has_end {B = B} me boot (standing_after me s e) []
    go false q h = (λ i. q i || has_end me boot (standing_after me s e) (take (count_to_end me boot (standing_after me s e) es) es)) ∙ h

pub pending_both : {B : Type 0} (stands : ℕ → Standing) (es fs pending : List (Entry B))
    → pending_behind (standings_from stands es) fs (pending_behind stands es pending) ≡ pending_behind stands (es ++ fs) pending
pending_both stands [] fs pending = refl
pending_both stands (e ∷ es) fs pending =
    pending_both (standings_after stands e) es fs (filter (is_wanted_by (standings_after stands e)) pending)

pub standing_both : {B : Type 0} (me : ℕ) (log es : List (Entry B)) → standing me (log ++ es) ≡ standing_from me (standing me log) es
standing_both me log es = fold-append (standing_after me) Unknown log es
