-- What is left of a node may come back from its thread.
use denote.Param.Send.{sendable}
use Rattle.serve_program.proofs.nodes.fn.run_all.scope.Goals as goal

pub spawn-requires-send-T : goal.spawn-requires-send-T
spawn-requires-send-T g c κs = let b = c.requires in search sendable depth 10
