-- The numbers of the faults of messages (docs/PROTOCOL.md, "Reading").
use Rattle.std.specs.Prelude.{ℕ}
use Rattle.wamp_message_types.specs.declared.fault.MessageFault.{MessageFault}
use Rattle.wamp_message_types.specs.declared.fault.MessageFault.TheVariants.{NotJson, NotArray, Kind, Length, Shape, IdRange}

abbrev pub number_of : MessageFault → ℕ
number_of NotJson = 21
number_of NotArray = 22
number_of Kind = 23
number_of Length = 24
number_of Shape = 25
number_of IdRange = 26
