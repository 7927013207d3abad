-- The log from which a machine goes on is the one after which the event applies its entries.
use Rattle.std.proofs.Common.{◌≡◌, ◌<◌, ◌+◌, ◌^◌, ℕ, Bool, true, false, refl, sym, ap, ◌∙◌, subst, List, [], ◌++◌, length, Option, Some, None}
use Rattle.std.specs.Prelude.{IfSome, IsSomeAnd, is_none}
use Rattle.std.proofs.lemmas.List.{append-nil, length-append}
use Rattle.paxos_packets.specs.Snapshot as taken
use Rattle.paxos_packets.specs.declared.entry.Entry.{Entry}
use Rattle.replica_machine.specs.Given.{AreGiven}
use Rattle.replica_machine.specs.Log.{LogState, IsAt, IsLogOf, length_in, cut_log, machine_from}
use Rattle.replica_machine.specs.Replay.{Steps}
use Rattle.replica_machine.specs.Snapshot.{Kept, IsLoaded, kept_after, loaded_log}
use Rattle.replica_machine.proofs.Snapshots.{loaded_whole}
use Rattle.cluster_world.specs.MemberSnapshots.{taken_over, log_from, under_from, Brings}
use Rattle.actor_parts.specs.Snapshots.{is_no_log, IsMadeOf, base_log}
use Rattle.actor_parts.proofs.Basing.{cut_short}
use Rattle.node_actor.specs.Snapshots.{Logs, log_at}

module _ {B S Y M : Type 0} (steps : Steps B S Y) (content : M → S) (loaded : List ℕ → Option S) where
  -- of an event that delivers a packet or not, and commits this snapshot or none, at a node that has applied these entries
  pub record Joins (packet : Bool) (c : Option taken.Snapshot) (applied : List (Entry B)) (log base : LogState B M) : Type 0 where
    pub goes : (first : S) (under : List (Entry B)) (logs : Logs B) → IsLogOf steps content first under log
        → Brings loaded (machine_from steps first) (log_at logs (taken_over packet c)) (taken_over packet c)
        → IsLogOf steps content first (under_from packet c under (log_at logs c) applied) base
    pub at : (under : List (Entry B)) (logs : Logs B)
        → under_from packet c under (log_at logs c) applied ++ base.applied ≡ log_from packet c under (log_at logs c) applied

  -- no snapshot is committed
  at_still : (packet : Bool) (under applied : List (Entry B)) → under ++ applied ≡ log_from packet None under [] applied
  at_still true under applied = refl
  at_still false under applied = refl

  joins_still : (packet : Bool) (applied : List (Entry B)) (log : LogState B M) → log.applied ≡ applied
      → Joins packet None applied log log
  joins_still true applied log e =
      record { goes = λ first under logs l b. l; at = λ under logs. ap (λ es. under ++ es) e ∙ at_still true under applied }
  joins_still false applied log e =
      record { goes = λ first under logs l b. l; at = λ under logs. ap (λ es. under ++ es) e ∙ at_still false under applied }

  -- it is made of the one that is taken over
  made_log : (made : Option (Kept S)) (first : S) (over : List (Entry B)) (log : LogState B M) → AreGiven over
      → IfSome made (λ k. k ≡ kept_after (machine_from steps first) over) → IsSomeAnd made (λ k. IsLoaded content k log)
      → IsLogOf steps content first over log
  made_log None first over log given is h = absurd h
  made_log (Some k) first over log given is h =
      loaded_whole steps content first over log given (subst (λ k. IsLoaded content k log) is h)

  none_applied : (made : Option (Kept S)) (log : LogState B M) → IsSomeAnd made (λ k. IsLoaded content k log) → log.applied ≡ []
  none_applied None log h = absurd h
  none_applied (Some k) log h = h.applied

  joins_taken : (s : taken.Snapshot) (applied : List (Entry B)) (log made : LogState B M) → IsMadeOf content loaded (Some s) (Some made)
      → Joins true (Some s) applied log made
  joins_taken s applied log made h =
      record {
        goes = λ first under logs l b. made_log (loaded_log loaded s.octets) first (logs s) made b.0 b.1 h.0;
        at = λ under logs. ap (λ es. logs s ++ es) (none_applied (loaded_log loaded s.octets) made h.0) ∙ append-nil (logs s);
      }

  -- it is cut
  cut_is : (first : S) (under : List (Entry B)) (log : LogState B M) → IsLogOf steps content first under log
      → IsLogOf steps content first (under ++ log.applied) (record log { floor = length_in log; applied = [] })
  cut_is first under log l =
      record {
        below = length-append under log.applied ∙ ap (λ n. n + length log.applied) l.below;
        stands = subst (λ es. IsAt steps content first es log.roll log.machine) (sym (append-nil (under ++ log.applied))) l.stands;
      }

  joins_cut : (s : taken.Snapshot) (applied : List (Entry B)) (log : LogState B M) → log.applied ≡ applied → length_in log < 2 ^ 40
      → Joins false (Some s) applied log (cut_log log)
  joins_cut s applied log e within =
      let short : cut_log log ≡ record log { floor = length_in log; applied = [] } = cut_short log within in
      record {
        goes = λ first under logs l b. subst (λ base. IsLogOf steps content first (under ++ applied) base) (sym short)
            (subst (λ es. IsLogOf steps content first (under ++ es) (record log { floor = length_in log; applied = [] })) e
            (cut_is first under log l));
        at = λ under logs. ap (λ es. (under ++ applied) ++ es) (ap (λ l. l.applied) short) ∙ append-nil (under ++ applied);
      }

  -- of an event that is no cut
  pub joins_made : (packet : Bool) (c : Option taken.Snapshot) (applied : List (Entry B)) (log : LogState B M) (made : Option (LogState B M))
      → IsMadeOf content loaded c made → ((s : taken.Snapshot) → c ≡ Some s → packet ≡ true) → log.applied ≡ applied
      → Joins packet c applied log (base_log made c log)
  joins_made packet None applied log None h from e = joins_still packet applied log e
  joins_made packet None applied log (Some made) h from e = absurd h
  joins_made packet (Some s) applied log None h from e = absurd h
  joins_made packet (Some s) applied log (Some made) h from e =
      subst (λ b. Joins b (Some s) applied log made) (sym (from s refl)) (joins_taken s applied log made h)

  -- of a cut
  pub joins_own : (s : taken.Snapshot) (applied : List (Entry B)) (log : LogState B M) → log.applied ≡ applied → length_in log < 2 ^ 40
      → Joins false (Some s) applied log (base_log None (Some s) log)
  joins_own s applied log e within = joins_cut s applied log e within

  -- whether a log is made

  some_made : (made : Option (Kept S)) (log : LogState B M) → IsSomeAnd made (λ k. IsLoaded content k log) → is_none made ≡ false
  some_made None log h = absurd h
  some_made (Some k) log h = refl

  pub reads_made : (packet : Bool) (c : Option taken.Snapshot) (made : Option (LogState B M)) → IsMadeOf content loaded c made
      → is_no_log loaded (taken_over packet c) ≡ false
  reads_made false c made h = refl
  reads_made true None made h = refl
  reads_made true (Some s) None h = absurd h
  reads_made true (Some s) (Some log) h = some_made (loaded_log loaded s.octets) log h.0

pub reads_none : {S : Type 0} (loaded : List ℕ → Option S) (packet : Bool) (c : Option taken.Snapshot)
    → ((s : taken.Snapshot) → c ≡ Some s → packet ≡ true) → is_no_log loaded c ≡ true → is_no_log loaded (taken_over packet c) ≡ true
reads_none loaded true c from h = h
reads_none loaded false None from h = h
reads_none loaded false (Some s) from h = absurd (let off : false ≡ true = from s refl in cc)
