-- The log with which an actor begins.
use Rattle.std.proofs.Common.{◌≡◌, ℕ, false, refl, sym, ap, subst, List, [], Option, Some, None}
use Rattle.std.proofs.lemmas.List.{get_or-replicate}
use Rattle.std.specs.Prelude.{IfSome, IsSomeAnd}
use Rattle.paxos_packets.specs.Snapshot.{floor_in}
use Rattle.paxos_packets.specs.Snapshot as taken
use Rattle.paxos_packets.specs.declared.entry.Entry.{Entry}
use Rattle.replica_machine.specs.declared.roll.Standing.TheVariants.{Unknown}
use Rattle.replica_machine.specs.Given.{AreGiven}
use Rattle.replica_machine.specs.Log.{LogState, IsLogOf, first_log, first_roll, machine_from}
use Rattle.replica_machine.specs.Replay.{Steps}
use Rattle.replica_machine.specs.Roll.{IsRollOf}
use Rattle.replica_machine.specs.Snapshot.{Kept, IsLoaded, kept_after, loaded_log}
use Rattle.replica_machine.proofs.Snapshots.{loaded_whole}
use Rattle.actor_parts.specs.Snapshots.{IsMadeOf}
use Rattle.node_actor.specs.Snapshots.{IsFirstLog, BeginsAfter}

module _ {B M S : Type 0} (content : M → S) (loaded : List ℕ → Option S) (machine : M) where
  -- it is made of a snapshot, or empty

  pub first_made : (c : Option taken.Snapshot) (log : LogState B M) → IsMadeOf content loaded c (Some log)
      → IsFirstLog content loaded machine c log
  first_made None log h = absurd h
  first_made (Some s) log h = h

  pub first_none : (c : Option taken.Snapshot) (log : LogState B M) → IsMadeOf {B = B} content loaded c None → log ≡ first_log machine
      → IsFirstLog content loaded machine c log
  first_none None log h is = is
  first_none (Some s) log h is = absurd h

  made_shows : (made : Option (Kept S)) (log : LogState B M) → IsSomeAnd made (λ k. IsLoaded content k log)
      → (log.applied ≡ []) × (log.failed ≡ false) × (log.ahead ≡ [])
  made_shows None log h = absurd h
  made_shows (Some k) log h = (h.applied, h.alive, h.ahead)

  -- it has the floor, and nothing is applied after it
  pub first_shows : (c : Option taken.Snapshot) (log : LogState B M) → IsFirstLog content loaded machine c log
      → (log.floor ≡ floor_in c) × (log.applied ≡ []) × (log.failed ≡ false) × (log.ahead ≡ [])
  first_shows None log is = (
    ap (λ (l : LogState B M). l.floor) is,
    ap (λ (l : LogState B M). l.applied) is,
    ap (λ (l : LogState B M). l.failed) is,
    ap (λ (l : LogState B M). l.ahead) is,
  )
  first_shows (Some s) log h =
      let shows = made_shows (loaded_log loaded s.octets) log h.0 in
      (h.1, shows.0, shows.1, shows.2)

empty_roll : (B : Type 0) → IsRollOf {B = B} [] first_roll
unfolding first_roll
empty_roll B = λ n within. get_or-replicate 256 n Unknown Unknown within

module _ {B M S Y : Type 0} (steps : Steps B S Y) (content : M → S) (loaded : List ℕ → Option S) (machine : M) (first : S) where
  made_follows : (made : Option (Kept S)) (under : List (Entry B)) (log : LogState B M) → AreGiven under
      → IfSome made (λ k. k ≡ kept_after (machine_from steps first) under) → IsSomeAnd made (λ k. IsLoaded content k log)
      → IsLogOf steps content first under log
  made_follows None under log given is h = absurd h
  made_follows (Some k) under log given is h =
      loaded_whole steps content first under log given (subst (λ k. IsLoaded content k log) is h)

  empty_follows : content machine ≡ first → IsLogOf steps content first [] (first_log machine)
  empty_follows is = record { below = refl; stands = (is, empty_roll B) }

  -- it is the log that the snapshot stands for, or the empty one
  pub first_follows : (c : Option taken.Snapshot) (under : List (Entry B)) (log : LogState B M) → IsFirstLog content loaded machine c log
      → BeginsAfter content loaded (machine_from steps first) machine under c → IsLogOf steps content first under log
  first_follows None under log is h =
      subst (λ es. IsLogOf steps content first es log) (sym h.0)
      (subst (λ l. IsLogOf steps content first [] l) (sym is) (empty_follows h.1))
  first_follows (Some s) under log is h = made_follows (loaded_log loaded s.octets) under log h.0 h.1 is.0
