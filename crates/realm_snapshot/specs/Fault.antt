-- What a call that loads returns.
use Rattle.std.specs.Prelude.{◌≡◌, ℕ, List, Option, None, Some, Result, Ok, Err}
use Rattle.command_codec.specs.declared.fault.CodecFault.{CodecFault}
use Rattle.command_codec.specs.declared.fault.CodecFault.TheVariants as codec
use Rattle.command_codec.specs.Number.{Reading}
use Rattle.replica_machine.specs.declared.fault.LoadFault.{LoadFault}
use Rattle.replica_machine.specs.declared.fault.LoadFault.TheVariants.{Damaged, Memory}
use Rattle.realm_sessions.specs.declared.fault.RestoreFault.{RestoreFault}
use Rattle.realm_sessions.specs.declared.fault.RestoreFault.TheVariants as restore

-- the fault of lists that no realm has
abbrev pub of_restore : RestoreFault → LoadFault
of_restore restore.Damaged = Damaged
of_restore restore.Memory = Memory

-- what is wanted, or `Damaged` where nothing is; memory may run out at any time
abbrev pub Loads : {A : Type 0} → Result A LoadFault → Option A → Type 0
Loads (Ok made) wanted = wanted ≡ Some made
Loads (Err Damaged) wanted = wanted ≡ None
Loads (Err Memory) wanted = Unit {0}

-- what is read at the head of octets, with what is left, or the fault of the first octet that is wrong; memory may run out at any time
abbrev pub Takes : {A : Type 0} → Result A CodecFault → Reading A → List ℕ → Type 0
Takes (Ok read) wanted rest = wanted ≡ Ok (read, rest)
Takes (Err codec.Short) wanted rest = wanted ≡ Err codec.Short
Takes (Err codec.Tag) wanted rest = wanted ≡ Err codec.Tag
Takes (Err codec.Range) wanted rest = wanted ≡ Err codec.Range
Takes (Err codec.Rest) wanted rest = wanted ≡ Err codec.Rest
Takes (Err codec.Memory) wanted rest = Unit {0}
