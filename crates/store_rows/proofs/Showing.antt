-- What the rows of the tables read as, by what each table reads as.
use Rattle.std.proofs.Common.{◌≡◌, ◌≢◌, ◌∙◌, List, true, false, Option, Some, None, Result, Ok, Err, refl, sym, ap}
use Rattle.std.specs.Prelude.{ℕ, IfOk, IfErr, option_and_then}
use Rattle.sqlite_value.specs.Order.{Row}
use Rattle.paxos_packets.specs.Snapshot.{Snapshot, floor_in}
use Rattle.paxos_packets.specs.declared.rows.Rows.{Rows}
use Rattle.command_codec.specs.Number.{Reading}
use Rattle.store_keeper.specs.declared.fault.KeeperFault.{KeeperFault}
use Rattle.store_keeper.specs.declared.fault.KeeperFault.TheVariants.{Damaged, Version, Memory}
use Rattle.store_rows.specs.Rows.{is_other_version, numbers_in, snapshot_in, votes_with, rows_of}

module _ {B : Type 0} (reading : List ℕ → Reading B) (metas votes snapshots : List Row) where
  abbrev told : Result (Rows B) KeeperFault
  told = rows_of reading (record { metas = metas; votes = votes; snapshots = snapshots })

  pub reads_version : is_other_version metas ≡ true → told ≡ Err Version
  reads_version other = rw other refl

  module _ (fit : is_other_version metas ≡ false) where
    abbrev beside : Option Snapshot → Option (Rows B)
    beside snapshot = option_and_then (votes_with reading votes snapshot) (numbers_in 2 (floor_in snapshot) metas)

    pub reads_whole : (snapshot : Option Snapshot) (r : Result (Rows B) KeeperFault) → snapshot_in snapshots ≡ Some snapshot
        → IfOk r (λ rows. beside snapshot ≡ Some rows) → IfOk r (λ rows. told ≡ Ok rows)
    reads_whole snapshot (Ok rows) is has = rw (fit, is, has) refl
    reads_whole snapshot (Err fault) is has = tt

    read_damaged : (snapshot : Option Snapshot) → snapshot_in snapshots ≡ Some snapshot → beside snapshot ≡ None → told ≡ Err Damaged
    read_damaged snapshot is none = rw (fit, is, none) refl

    pub reads_damaged : (snapshot : Option Snapshot) (r : Result (Rows B) KeeperFault) → snapshot_in snapshots ≡ Some snapshot
        → IfErr r (λ fault. fault ≢ Memory → (fault ≡ Damaged) × (beside snapshot ≡ None)) → IfErr r (λ fault. fault ≢ Memory → told ≡ Err fault)
    reads_damaged snapshot (Ok rows) is shown = tt
    reads_damaged snapshot (Err fault) is shown = λ other. let it = shown other in read_damaged snapshot is it.1 ∙ ap Err (sym it.0)

    read_no_snapshot : snapshot_in snapshots ≡ None → told ≡ Err Damaged
    read_no_snapshot none = rw (fit, none) refl

    pub reads_no_snapshot : (fault : KeeperFault) → (fault ≢ Memory → (fault ≡ Damaged) × (snapshot_in snapshots ≡ None)) → fault ≢ Memory → told ≡ Err fault
    reads_no_snapshot fault shown other = let it = shown other in read_no_snapshot it.1 ∙ ap Err (sym it.0)
