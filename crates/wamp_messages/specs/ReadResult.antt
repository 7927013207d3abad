-- What is read with the parts that were taken of a message's array.
use Rattle.std.specs.Prelude.{Result, Ok, Err}
use Rattle.wamp_message_types.specs.declared.fault.MessageFault.{MessageFault}
use Rattle.wamp_message_types.specs.declared.read_result.Read.{Read}
use Rattle.wamp_message_types.specs.declared.read_result.Read.TheVariants.{Bad}

abbrev pub read_as : {T : Type 0} → (T → Read) → Result T MessageFault → Read
read_as f (Ok parts) = f parts
read_as f (Err fault) = Bad fault
