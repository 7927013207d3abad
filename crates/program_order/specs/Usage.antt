-- The statuses of a command line that is wrong (docs/PROTOCOL.md, "A stream"; docs/OPERATING.md).
use Rattle.std.specs.Prelude.{ℕ}
use Rattle.program_order.specs.declared.usage.UsageFault.{UsageFault}
use Rattle.program_order.specs.declared.usage.UsageFault.TheVariants.{Usage, Memory}

-- the status with which the program ends
abbrev pub usage_status_of : UsageFault → ℕ
usage_status_of (Usage text) = 2
usage_status_of Memory = 5
