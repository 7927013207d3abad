-- How the faults of a script and of a served cluster are turned into the program's (docs/PROTOCOL.md, "A stream").
use Rattle.std.specs.Prelude.{ℕ, ◌==◌, ◌||◌, Bool, false}
use Rattle.client_listener.specs.declared.fault.ListenFault.TheVariants as listen
use Rattle.script_program.specs.declared.fault.ScriptFault.{ScriptFault}
use Rattle.script_program.specs.declared.fault.ScriptFault.TheVariants as script
use Rattle.serve_program.specs.declared.fault.ServeFault.{ServeFault}
use Rattle.serve_program.specs.declared.fault.ServeFault.TheVariants as serve
use Rattle.serve_program.specs.Fault.{number_of}
use Rattle.stream_program.specs.declared.fault.RunFault.{RunFault}
use Rattle.stream_program.specs.declared.fault.RunFault.TheVariants.{Line, Store, Memory, Transport}
use Rattle.stream_program.specs.Fault.{run_fault_of}

-- the fault of a run whose script was not run to its end
abbrev pub script_fault_of : ScriptFault → RunFault
script_fault_of (script.Line number) = Line number
script_fault_of script.Memory = Memory
script_fault_of script.Read = run_fault_of listen.Read
script_fault_of script.Write = run_fault_of listen.Write
script_fault_of script.Reads = run_fault_of listen.Turns

-- the fault of a run whose cluster was not served to its end
abbrev pub serve_fault_of : ServeFault → RunFault
serve_fault_of (serve.Node node fault) = Store (number_of fault)
serve_fault_of serve.Memory = Memory
serve_fault_of serve.Port = run_fault_of listen.Read
serve_fault_of serve.Write = run_fault_of listen.Write

-- faults of a node that end no node: no round is left, the node is lost in its boot and begins its next one, and there is no room
abbrev pub ends_nothing : RunFault → Bool
ends_nothing (Line number) = false
ends_nothing (Store number) = (number == 51) || ((number == 73) || (number == 74))
ends_nothing Memory = false
ends_nothing (Transport number) = false
