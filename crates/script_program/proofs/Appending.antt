-- The lines of the entries above a floor, entry by entry; `under` is the log up to the floor.
use Rattle.std.proofs.Common.{◌≡◌, ℕ, suc, ◌+◌, ◌<◌, ◌≤◌, Bool, List, [], ◌∷◌, ◌++◌, length, get_or, take, drop, ap, sym, subst, ◌∙◌, refl}
use Rattle.std.proofs.Common.{Option, append-nil}
use Rattle.std.proofs.Math.ListN.{drop_of_length-le}
use Rattle.std.proofs.Math.Seq.{drop-append_seam}
use Rattle.std.proofs.lemmas.List.{append_assoc, take_more, drop_more}
use Rattle.std.proofs.lemmas.List.Sums.{fold-append}
use Rattle.paxos_packets.specs.declared.entry.Entry.{Entry}
use Rattle.replica_machine.specs.declared.roll.Standing.{Standing}
use Rattle.replica_machine.specs.declared.roll.Standing.TheVariants.{Unknown}
use Rattle.replica_machine.specs.Effects.{is_effective, effects, effects_from}
use Rattle.replica_machine.specs.Roll.{IsRollOf, standing_in, standing_after, standing}
use Rattle.script_program.specs.Printing.{Passes, Underway}
use Rattle.script_program.specs.Text.{entry_text, floor_text, log_from, log_text}
use Rattle.script_program.proofs.Pages.{begins, is_over}

-- the lines of these entries, if so many before them were written
abbrev pub lines_left : {B : Type 0} → ℕ → List (Entry B) → List (Entry B) → ℕ → List ℕ
lines_left slot under log i = log_from slot (drop i log) (effects_from (under ++ take i log) (drop i log))

module _ {B : Type 0} (under log : List (Entry B)) where
  pub roll_begins : (roll : List Standing) → IsRollOf under roll → IsRollOf (under ++ []) roll
  roll_begins roll is = subst (λ (l : List (Entry B)). IsRollOf l roll) (sym (append-nil under)) is

  pub entries_begin : (slot : ℕ) (old : Option (List ℕ)) (waited : List ℕ)
      → Underway old old waited waited (log_from slot log (effects_from under log)) (lines_left slot under log 0)
  entries_begin slot old waited =
      subst
      (λ (l : List (Entry B)). Underway old old waited waited (log_from slot log (effects_from under log)) (log_from slot log (effects_from l log)))
      (sym (append-nil under)) (begins old waited (log_from slot log (effects_from under log)))

  pub entries_end : (slot i : ℕ) → length log ≤ i → (old mid : Option (List ℕ)) (waited between whole : List ℕ)
      → Underway old mid waited between whole (lines_left slot under log i) → Passes old mid waited between whole
  entries_end slot i past old mid waited between whole u =
      is_over old mid waited between whole (lines_left slot under log i) u
      (ap (λ (es : List (Entry B)). log_from slot es (effects_from (under ++ take i log) es)) (drop_of_length-le log past))

  module _ (i : ℕ) (e : Entry B) (within : i < length log) (read : e ≡ get_or log i e) where
    front : under ++ take (i + 1) log ≡ (under ++ take i log) ++ e ∷ []
    front =
        ap (λ (l : List (Entry B)). under ++ l) (take_more log i e within ∙ ap (λ x. take i log ++ x ∷ []) (sym read))
        ∙ sym (append_assoc under (take i log) (e ∷ []))

    pub roll_step : (old new : List Standing) → IsRollOf (under ++ take i log) old
        → ((n : ℕ) → n < 256 → standing_in new n ≡ standing_after n (standing_in old n) e) → IsRollOf (under ++ take (i + 1) log) new
    roll_step old new is after = λ n l.
        after n l ∙ ap (λ s. standing_after n s e) (is n l) ∙ sym (fold-append (standing_after n) Unknown (under ++ take i log) (e ∷ []))
        ∙ ap (standing n) (sym front)

    pub line_step : (slot : ℕ) (took : Bool) → took ≡ is_effective (under ++ take i log) e
        → lines_left (slot + 1) under log i ≡ entry_text (slot + 1) e took ++ lines_left (slot + 1 + 1) under log (i + 1)
    line_step slot took effect =
        let cut : drop i log ≡ e ∷ drop (i + 1) log = drop_more log i e within ∙ ap (λ x. x ∷ drop (i + 1) log) (sym read) in
        rw (effect, front) (ap (λ (es : List (Entry B)). log_from (slot + 1) es (effects_from (under ++ take i log) es)) cut)

-- ---- a whole log: what is written of it is above its floor

module _ {B : Type 0} where
  effects_on : (before es more : List (Entry B)) → effects_from before (es ++ more) ≡ effects_from before es ++ effects_from (before ++ es) more
  effects_on before [] more = ap (λ (l : List (Entry B)). effects_from l more) (sym (append-nil before))
  effects_on before (e ∷ es) more =
      ap (λ (took : List Bool). is_effective before e ∷ took)
      (effects_on (before ++ e ∷ []) es more
      ∙ ap (λ (l : List (Entry B)). effects_from (before ++ e ∷ []) es ++ effects_from l more) (append_assoc before (e ∷ []) es))

  effects_long : (before es : List (Entry B)) → length (effects_from before es) ≡ length es
  effects_long before [] = refl
  effects_long before (e ∷ es) = ap suc (effects_long (before ++ e ∷ []) es)

  pub log_cut : (under es : List (Entry B)) (floor : ℕ) → length under ≡ floor
      → floor_text floor ++ log_from (floor + 1) es (effects_from under es) ≡ log_text floor (under ++ es)
  log_cut under es floor is =
      subst (λ n. floor_text n ++ log_from (n + 1) es (effects_from under es) ≡ log_text n (under ++ es)) is
      (ap (λ (z : List (Entry B) × List Bool). floor_text (length under) ++ log_from (length under + 1) z.0 z.1)
      (λ i. (sym (drop-append_seam under es) i, sym took i)))
    where
      took : drop (length under) (effects (under ++ es)) ≡ effects_from under es
      took =
          ap (λ (z : ℕ × List Bool). drop z.0 z.1) (λ i. (sym (effects_long [] under) i, effects_on [] under es i))
          ∙ drop-append_seam (effects_from [] under) (effects_from under es)
