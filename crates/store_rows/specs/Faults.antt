-- Where the cause of a fault lies.
use Rattle.std.specs.Prelude.{◌≢◌}
use Rattle.store_keeper.specs.declared.fault.KeeperFault.{KeeperFault}
use Rattle.store_keeper.specs.declared.fault.KeeperFault.TheVariants.{Failed, Boots}

-- the fault lies in what is stored, or in what it is stored by
abbrev pub LiesBelow : KeeperFault → Type 0
LiesBelow fault = (fault ≢ Failed) × (fault ≢ Boots)
