-- The numbers of the faults of saving and loading.
use Rattle.std.specs.Prelude.{ℕ}
use Rattle.command_codec.specs.declared.fault.CodecFault.{CodecFault}
use Rattle.command_codec.specs.declared.fault.CodecFault.TheVariants as codec
use Rattle.replica_machine.specs.declared.fault.SaveFault.{SaveFault}
use Rattle.replica_machine.specs.declared.fault.SaveFault.TheVariants as save
use Rattle.replica_machine.specs.declared.fault.LoadFault.{LoadFault}
use Rattle.replica_machine.specs.declared.fault.LoadFault.TheVariants.{Damaged, Memory}

abbrev pub save_fault_number : SaveFault → ℕ
save_fault_number save.Failed = 48
save_fault_number save.Memory = 92

abbrev pub load_fault_number : LoadFault → ℕ
load_fault_number Damaged = 91
load_fault_number Memory = 92

-- the fault of octets that do not read
abbrev pub of_codec : CodecFault → LoadFault
of_codec codec.Short = Damaged
of_codec codec.Tag = Damaged
of_codec codec.Range = Damaged
of_codec codec.Rest = Damaged
of_codec codec.Memory = Memory
