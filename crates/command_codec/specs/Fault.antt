-- The numbers of the faults (docs/CONSENSUS.md, "Entry bytes").
use Rattle.std.specs.Prelude.{ℕ}
use Rattle.command_codec.specs.declared.fault.CodecFault.{CodecFault}
use Rattle.command_codec.specs.declared.fault.CodecFault.TheVariants.{Short, Tag, Range, Rest, Memory}

abbrev pub fault_number : CodecFault → ℕ
fault_number Short = 41
fault_number Tag = 42
fault_number Range = 43
fault_number Rest = 44
fault_number Memory = 45
