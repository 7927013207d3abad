-- A station may go to its node's thread, and what is left of the node may come back.
use denote.Param.Send.{sendable}
use Rattle.serve_program.proofs.Sendable.{left_send, station_send}
use Rattle.serve_program.proofs.nodes.run_cluster.Goals as goal

pub run_all-requires-send-T : goal.run_all-requires-send-T
run_all-requires-send-T g c κs = let b = c.type_bounds.send-C in let s = station_send in search sendable depth 10

pub run_all-requires-send-L : goal.run_all-requires-send-L
run_all-requires-send-L g c κs = let b = c.type_bounds.send-C in let s = left_send in search sendable depth 10
