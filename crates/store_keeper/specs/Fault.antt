-- The numbers of the faults of a store.
use Rattle.std.specs.Prelude.{ℕ}
use Rattle.store_keeper.specs.declared.fault.KeeperFault.{KeeperFault}
use Rattle.store_keeper.specs.declared.fault.KeeperFault.TheVariants.{Store, Damaged, Version, Memory, Failed, Boots}

abbrev pub number_of : KeeperFault → ℕ
number_of Store = 61
number_of Damaged = 62
number_of Version = 63
number_of Memory = 64
number_of Failed = 65
number_of Boots = 66
