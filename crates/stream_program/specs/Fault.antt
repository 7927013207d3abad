-- The statuses of faults, and how those of a client's transport are reported (docs/PROTOCOL.md, "A stream").
use Rattle.std.specs.Prelude.{ℕ}
use Rattle.client_listener.specs.declared.fault.ListenFault.{ListenFault}
use Rattle.client_listener.specs.declared.fault.ListenFault.TheVariants as listen
use Rattle.client_listener.specs.Fault.{number_of}
use Rattle.stream_program.specs.declared.fault.RunFault.{RunFault}
use Rattle.stream_program.specs.declared.fault.RunFault.TheVariants.{Line, Store, Memory, Transport}

-- the status with which the program ends by this fault
abbrev pub status_of : RunFault → ℕ
status_of (Line number) = 3
status_of (Store number) = 4
status_of Memory = 5
status_of (Transport number) = 6

-- the fault of a run whose client was not served any further
abbrev pub run_fault_of : ListenFault → RunFault
run_fault_of listen.Memory = Memory
run_fault_of listen.Handshake = Transport (number_of listen.Handshake)
run_fault_of listen.Frame = Transport (number_of listen.Frame)
run_fault_of listen.Read = Transport (number_of listen.Read)
run_fault_of listen.Write = Transport (number_of listen.Write)
run_fault_of listen.Turns = Transport (number_of listen.Turns)
run_fault_of listen.Wide = Transport (number_of listen.Wide)
