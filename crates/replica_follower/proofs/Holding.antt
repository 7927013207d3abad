-- A log of which a node has all entries, or none.
use Rattle.std.proofs.Common.{◌≡◌, refl, sym, ap, ◌∙◌, ℕ, arith, false, List, length, take, Option, None, Some, subst}
use Rattle.std.specs.Prelude.{IsSomeAnd}
use Rattle.std.proofs.Math.Seq.{take-length}
use Rattle.paxos_packets.specs.declared.entry.Entry.{Entry}
use Rattle.replica_machine.specs.Log.{LogState, IsLogOf, machine_from, steps_of}
use Rattle.replica_machine.specs.Snapshot.{Kept, IsLoaded}
use Rattle.replica_follower.specs.Following.{IsHeld, up_to}
use Rattle.replica_machine.specs.Replay.{Steps}

pub all_of : {A : Type 0} (n : ℕ) (p : List A) → length p ≡ n → take n p ≡ p
all_of n p whole = ap (λ k. take k p) (sym whole) ∙ take-length p

pub whole_log : {B M : Type 0} (n : ℕ) (log : LogState B M) → length log.applied ≡ n → up_to n log ≡ log
whole_log n log whole = λ i. record log { applied = all_of n log.applied whole i }

-- of a log of which all is there

module _ {B S Y M : Type 0} (steps : Steps B S Y) (content : M → S) (first : S)
    (under : List (Entry B)) (n : ℕ) (log : LogState B M) (whole : length log.applied ≡ n) where
  pub out_of : IsLogOf (steps_of (machine_from steps first)) content first under (up_to n log)
      → IsLogOf steps content first under log
  out_of h =
      let k = subst (λ (l : LogState B M). IsLogOf (steps_of (machine_from steps first)) content first under l) (whole_log n log whole) h in
      record { below = k.below; stands = k.stands }

  pub into : IsLogOf steps content first under log
      → IsLogOf (steps_of (machine_from steps first)) content first under (up_to n log)
  into h =
      subst (λ (l : LogState B M). IsLogOf (steps_of (machine_from steps first)) content first under l) (sym (whole_log n log whole))
      (record { below = h.below; stands = h.stands })

-- of a log that was loaded

pub loaded_held : {B M S : Type 0} (content : M → S) (kept : Option (Kept S)) (log : LogState B M) → IsSomeAnd kept (λ k. IsLoaded content k log)
    → IsHeld 0 log false
loaded_held content None log h = absurd h
loaded_held content (Some k) log h =
    record {
      within = omega arith;
      ahead = h.ahead;
      whole = λ alive. ap (λ es. length es) h.applied;
      heard = λ given_up. (let never : false ≡ Rattle.std.proofs.Common.true = given_up in absurd cc);
    }

pub loaded_none : {B M S : Type 0} (content : M → S) (kept : Option (Kept S)) (log : LogState B M) → IsSomeAnd kept (λ k. IsLoaded content k log)
    → IsSomeAnd kept (λ k. IsLoaded content k (up_to 0 log))
loaded_none content None log h = absurd h
loaded_none content (Some k) log h =
    record { floor = h.floor; applied = refl; ahead = h.ahead; alive = h.alive; machine = h.machine; roll = h.roll }
