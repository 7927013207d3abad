-- What is applied, counted entry by entry up to the one that ends the boot.
use Rattle.std.proofs.Common.{◌≡◌, ℕ, suc, ◌+◌, Bool, true, false, cond, ◌||◌, List, [], ◌∷◌, ap, sym, ◌∙◌, arith}
use Rattle.paxos_packets.specs.declared.entry.Entry.{Entry}
use Rattle.replica_machine.specs.declared.roll.Standing.{Standing}
use Rattle.replica_machine.specs.Roll.{standing_after}
use Rattle.paxos_node.specs.Applying.{ends_boot, count_to_end, has_end}

-- after the first n, the rest makes this count and this end
abbrev pub Counts : {B : Type 0} → ℕ → ℕ → Standing → List (Entry B) → ℕ → ℕ → Bool → Type 0
Counts me boot s rest n count end = (n + count_to_end me boot s rest ≡ count) × (has_end me boot s rest ≡ end)

one_more : (n k w : ℕ) → n + suc k ≡ w → n + 1 + k ≡ w
one_more n k w h = omega (arith, h)

module _ {B : Type 0} (me boot : ℕ) (s : Standing) (e : Entry B) (more rest : List (Entry B)) (n count : ℕ) (end : Bool) where
  step : (b : Bool) → b ≡ ends_boot me boot s e → rest ≡ e ∷ more → Counts me boot s rest n count end
      → (n + cond b 1 (suc (count_to_end me boot (standing_after me s e) more)) ≡ count)
      × (b || has_end me boot (standing_after me s e) more ≡ end)
  step b t r h = (
    (λ i. n + cond (t i) 1 (suc (count_to_end me boot (standing_after me s e) more)))
        ∙ ap (λ (l : List (Entry B)). n + count_to_end me boot s l) (sym r) ∙ h.0,
    (λ i. t i || has_end me boot (standing_after me s e) more) ∙ ap (λ (l : List (Entry B)). has_end me boot s l) (sym r) ∙ h.1,
  )

  pub counts_on : (next : Standing) → false ≡ ends_boot me boot s e → next ≡ standing_after me s e → rest ≡ e ∷ more
      → Counts me boot s rest n count end → Counts me boot next more (n + 1) count end
  counts_on next t is r h =
      let done = step false t r h in (
        ap (λ (z : Standing). n + 1 + count_to_end me boot z more) is
            ∙ one_more n (count_to_end me boot (standing_after me s e) more) count done.0,
        ap (λ (z : Standing). has_end me boot z more) is ∙ done.1,
      )

  pub counts_last : true ≡ ends_boot me boot s e → rest ≡ e ∷ more → Counts me boot s rest n count end → (n + 1 ≡ count) × (true ≡ end)
  counts_last t r h = step true t r h

pub counts_none : {B : Type 0} (me boot : ℕ) (s : Standing) (rest : List (Entry B)) (n count : ℕ) (end : Bool) → rest ≡ []
    → Counts me boot s rest n count end → (n ≡ count) × (false ≡ end)
counts_none {B} me boot s rest n count end r h = (
  sym (omega arith) ∙ ap (λ (l : List (Entry B)). n + count_to_end me boot s l) (sym r) ∙ h.0,
  ap (λ (l : List (Entry B)). has_end me boot s l) (sym r) ∙ h.1,
)
