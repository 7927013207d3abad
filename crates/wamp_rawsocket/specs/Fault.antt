-- The numbers of the faults (this project's profile).
use Rattle.std.specs.Prelude.{ℕ}
use Rattle.wamp_rawsocket.specs.declared.fault.FrameFault.{FrameFault}
use Rattle.wamp_rawsocket.specs.declared.fault.FrameFault.TheVariants.{Reserved, BadType, TooLong, Memory, Failed}

-- the number by which the program reports a fault
abbrev pub number_of : FrameFault → ℕ
number_of Reserved = 31
number_of BadType = 32
number_of TooLong = 33
number_of Memory = 34
number_of Failed = 35
