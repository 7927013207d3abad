-- A store in memory, which fails at a chosen commit.
use Rattle.std.specs.Prelude.{ℕ, suc, ◌-◌, ◌≡◌, Bool, true, false, ◌==◌, nat_le, Result, Ok, Err, if◌then◌else◌}
use Rattle.paxos_packets.specs.Rows.{last_boot, raised}
use Rattle.paxos_packets.specs.declared.rows.Change.{Change}
use Rattle.paxos_packets.specs.declared.rows.Rows.{Rows}
use Rattle.paxos_acceptor.specs.Acceptor.{adopted}
use Rattle.store_keeper.specs.declared.fault.KeeperFault.{KeeperFault}
use Rattle.store_keeper.specs.declared.fault.KeeperFault.TheVariants.{Store, Memory, Failed, Boots}

pub record Kept (B : Type 0) : Type 0 where
  -- what is committed
  pub rows : Rows B
  -- how many calls of commit there are up to the one that fails; 0 if none will
  pub left : ℕ
  -- whether that one leaves its rows
  pub keeps : Bool
  -- whether a commit or a boot returned a fault
  pub is_failed : Bool
  -- how many commits failed as was chosen
  pub failures : ℕ

-- the commit that fails
abbrev pub stopped : {B : Type 0} → Change B → Kept B → Kept B
stopped change k = record {
  rows = if k.keeps then adopted k.rows change else k.rows;
  left = 0;
  keeps = k.keeps;
  is_failed = true;
  failures = suc k.failures;
}

-- what a commit returns, and what is there then
abbrev pub commit_of : {B : Type 0} → Change B → Kept B → Result (Unit {0}) KeeperFault × Kept B
commit_of change k =
    if k.is_failed then (Err Failed, k)
    else (if k.left == 1 then (Err Store, stopped change k)
    else (Ok tt, record k { rows = adopted k.rows change; left = k.left - 1 }))

-- the same, and if memory runs out the rows of before
abbrev pub Commits : {B : Type 0} → Change B → Result (Unit {0}) KeeperFault → Kept B → Kept B → Type 0
Commits change (Err Memory) old new = (old.is_failed ≡ false) × (new ≡ record old { is_failed = true })
Commits change result old new = commit_of change old ≡ (result, new)

-- what a boot returns, and what is there then
abbrev pub boot_of : {B : Type 0} → Kept B → Result (Rows B) KeeperFault × Kept B
boot_of k =
    if k.is_failed then (Err Failed, k)
    else (if nat_le last_boot k.rows.boot then (Err Boots, record k { is_failed = true })
    else (Ok (raised k.rows), record k { rows = raised k.rows }))

-- the same, and if memory runs out the rows of before
abbrev pub BootsIn : {B : Type 0} → Result (Rows B) KeeperFault → Kept B → Kept B → Type 0
BootsIn (Err Memory) old new = (old.is_failed ≡ false) × (new ≡ record old { is_failed = true })
BootsIn result old new = boot_of old ≡ (result, new)

-- what a load returns
abbrev pub load_of : {B : Type 0} → Kept B → Result (Rows B) KeeperFault
load_of k = if k.is_failed then Err Failed else Ok k.rows

abbrev pub Loads : {B : Type 0} → Result (Rows B) KeeperFault → Kept B → Type 0
Loads (Err Memory) k = k.is_failed ≡ false
Loads result k = load_of k ≡ result
