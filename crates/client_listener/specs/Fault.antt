-- The numbers of the faults (this project's profile).
use Rattle.std.specs.Prelude.{ℕ}
use Rattle.client_listener.specs.declared.fault.ListenFault.{ListenFault}
use Rattle.client_listener.specs.declared.fault.ListenFault.TheVariants.{Handshake, Frame, Read, Write, Turns, Memory, Wide}

-- the number by which the program reports a fault
abbrev pub number_of : ListenFault → ℕ
number_of Handshake = 81
number_of Frame = 82
number_of Read = 83
number_of Write = 84
number_of Turns = 85
number_of Memory = 86
number_of Wide = 87
