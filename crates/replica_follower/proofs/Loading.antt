-- What a log is saved as, what a log that is made of octets stands for, and one that is cut.
use Rattle.std.proofs.Common.{◌≡◌, inr, refl, sym, ap, ◌∙◌, subst, ℕ, ◌+◌, ◌<◌, ◌^◌, arith, Bool, true, false, not, cond, eqb, List, [], ◌++◌}
use Rattle.std.proofs.Common.{length, Option, None, Some}
use Rattle.std.specs.Prelude.{Result, IfOk, IfSome, IsSomeAnd, nat_lt}
use Rattle.std.proofs.lemmas.Bool.{cond_both, cond-true, eq-eqb, eqb-true, lt-ltb}
use Rattle.std.proofs.lemmas.List.{append-nil, length-append, nil_from_length}
use Rattle.paxos_packets.specs.declared.entry.Entry.{Entry}
use Rattle.replica_machine.specs.Given.{AreGiven}
use Rattle.replica_machine.specs.Log.{LogState, IsAt, IsLogOf, cut_log, length_in, machine_from, steps_of}
use Rattle.replica_machine.specs.Replay.{Steps}
use Rattle.replica_machine.specs.Snapshot.{Kept, IsLoaded, kept_after, kept_of, kept_octets, loaded_log}
use Rattle.replica_machine.proofs.Snapshots.{kept_whole, loaded_whole}
use Rattle.replica_follower.specs.Following.{LoadsAs, IsHeld, up_to}

module _ {B S Y M : Type 0} (steps : Steps B S Y) (content : M → S) (first : S) (under : List (Entry B)) where
  -- the log is one that all these entries lead to, as a follower says it
  abbrev pub Stands : LogState B M → Type 0
  Stands log = IsLogOf (steps_of (machine_from steps first)) content first under log

  abbrev pub kept : LogState B M → Kept S
  kept log = kept_after (machine_from steps first) (under ++ log.applied)

  pub kept_is : (log : LogState B M) → Stands log → kept_of content log ≡ kept log
  kept_is log h = kept_whole (steps_of (machine_from steps first)) content first under log h

  pub plainly : (log : LogState B M) → Stands log → IsLogOf steps content first under log
  plainly log h = record { below = h.below; stands = h.stands }

  module _ {T E : Type 0} (result : Result T E) (items : T → List ℕ) (log : LogState B M) (h : Stands log) where
    -- what is saved of it
    pub keeps : (saved : S → List ℕ) → IfOk result (λ octets. items octets ≡ kept_octets saved (kept_of content log))
        → IfOk result (λ octets. items octets ≡ kept_octets saved (kept log))
    keeps saved are = subst (λ k. IfOk result (λ octets. items octets ≡ kept_octets saved k)) (kept_is log h) are

    pub loads : (loaded : List ℕ → Option S) → AreGiven (under ++ log.applied) → length (under ++ log.applied) < 2 ^ 40
        → (AreGiven (under ++ log.applied) → length_in log < 2 ^ 40
        → IfOk result (λ octets. IfSome (loaded_log loaded (items octets)) (λ made. made ≡ kept_of content log)))
        → IfOk result (λ octets. LoadsAs loaded (kept log) (items octets))
    loads loaded given within only =
        subst (λ k. IfOk result (λ octets. LoadsAs loaded k (items octets))) (kept_is log h)
        (only given (subst (λ n. n < 2 ^ 40) (length-append under log.applied ∙ ap (λ n. n + length log.applied) h.below) within))

  -- what is made of octets that load as it, if they load
  pub made_stands : (made : Option (Kept S)) (log : LogState B M) → AreGiven under
      → IfSome made (λ k. k ≡ kept_after (machine_from steps first) under) → IsSomeAnd made (λ k. IsLoaded content k log)
      → IsLogOf steps content first under log
  made_stands None log given is h = absurd h
  made_stands (Some k) log given is h = loaded_whole steps content first under log given (subst (λ k. IsLoaded content k log) is h)

  pub made_follows : (made : Option (Kept S)) (log : LogState B M) → AreGiven under
      → IfSome made (λ k. k ≡ kept_after (machine_from steps first) under) → IsSomeAnd made (λ k. IsLoaded content k log) → Stands log
  made_follows None log given is h = absurd h
  made_follows (Some k) log given is h =
      loaded_whole (steps_of (machine_from steps first)) content first under log given (subst (λ k. IsLoaded content k log) is h)

-- a log of which nothing is ahead, nor applied
pub loaded_ahead : {B M S : Type 0} (content : M → S) (made : Option (Kept S)) (log : LogState B M) → IsSomeAnd made (λ k. IsLoaded content k log)
    → log.ahead ≡ []
loaded_ahead content None log h = absurd h
loaded_ahead content (Some k) log h = h.ahead

pub loaded_applied : {B M S : Type 0} (content : M → S) (made : Option (Kept S)) (log : LogState B M) → IsSomeAnd made (λ k. IsLoaded content k log)
    → log.applied ≡ []
loaded_applied content None log h = absurd h
loaded_applied content (Some k) log h = h.applied

-- ---- a log that is cut

not_false : (b : Bool) → not b ≡ false → b ≡ true
not_false true h = refl
not_false false h = sym h

pub emptied : {A : Type 0} (xs : List A) (b : Bool) → b ≡ eqb (length xs) 0 → not b ≡ false → xs ≡ []
emptied xs b is h = nil_from_length xs (eqb-true (length xs) 0 (sym is ∙ not_false b h))

pub empty : {A : Type 0} (xs : List A) (b : Bool) → b ≡ eqb (length xs) 0 → xs ≡ [] → not b ≡ false
empty xs b is none = ap (λ c. not c) (is ∙ eq-eqb (length xs) 0 (ap (λ ys. length ys) none))

module _ {B M : Type 0} where
  -- of a node that stands at the log's floor: the log has no entry, or the machine is given up
  pub rest_held : (log : LogState B M) (b : Bool) → log.ahead ≡ [] → (b ≡ false → log.applied ≡ []) → IsHeld 0 log b
  rest_held log b ahead none =
      record {
        within = omega arith;
        ahead = ahead;
        whole = λ alive. ap (λ es. length es) (none alive);
        heard = λ given_up. inr refl;
      }

  pub cut_ahead : (log : LogState B M) → (cut_log log).ahead ≡ log.ahead
  cut_ahead log =
      cond_both (nat_lt (length_in log) (2 ^ 40)) (record log { floor = length_in log; applied = [] }) log (λ l. l.ahead ≡ log.ahead)
      (λ _. refl) (λ _. refl)

  cut_short : (log : LogState B M) → length_in log < 2 ^ 40 → cut_log log ≡ record log { floor = length_in log; applied = [] }
  cut_short log within = cond-true (nat_lt (length_in log) (2 ^ 40)) _ log (lt-ltb (length_in log) (2 ^ 40) within)

  pub cut_none : (log : LogState B M) → length_in log < 2 ^ 40 → (cut_log log).applied ≡ []
  cut_none log within = ap (λ l. l.applied) (cut_short log within)

  pub cut_all : (log : LogState B M) → length_in log < 2 ^ 40 → up_to 0 (cut_log log) ≡ cut_log log
  cut_all log within = ap (λ l. up_to 0 l) (cut_short log within) ∙ sym (cut_short log within)

-- it stands for all that it did, if the cut left nothing
module _ {B S Y M : Type 0} (steps : Steps B S Y) (content : M → S) (first : S) (under : List (Entry B)) where
  pub rests : (log : LogState B M) → Stands steps content first under log → (cut_log log).applied ≡ []
      → Stands steps content first (under ++ log.applied) (up_to 0 (cut_log log))
  rests log h none = go (nat_lt (length_in log) (2 ^ 40)) none
    where
      at : IsAt (steps_of (machine_from steps first)) content first ((under ++ log.applied) ++ []) log.roll log.machine
      at = subst (λ l. IsAt (steps_of (machine_from steps first)) content first l log.roll log.machine) (sym (append-nil (under ++ log.applied)))
          h.stands

      go : (b : Bool) → (cond b (record log { floor = length_in log; applied = [] }) log).applied ≡ []
          → Stands steps content first (under ++ log.applied) (up_to 0 (cond b (record log { floor = length_in log; applied = [] }) log))
      go true none = record { below = length-append under log.applied ∙ ap (λ n. n + length log.applied) h.below; stands = at }
      go false none =
          record { below = ap (λ es. length (under ++ es)) none ∙ ap (λ es. length es) (append-nil under) ∙ h.below; stands = at }
