-- The numbers of the faults of values (docs/PROTOCOL.md, "Reading").
use Rattle.std.specs.Prelude.{ℕ}
use Rattle.wamp_values.specs.declared.fault.ValueFault.{ValueFault}
use Rattle.wamp_values.specs.declared.fault.ValueFault.TheVariants.{Number, Deep, Memory}

abbrev pub number_of : ValueFault → ℕ
number_of Number = 11
number_of Deep = 13
number_of Memory = 12
