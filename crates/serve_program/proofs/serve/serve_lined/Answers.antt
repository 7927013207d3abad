use denote.Param.Send.{sendable}
use Rattle.serve_lines.proofs.Crossing.{lined_send, lined_sync}
use Rattle.serve_program.proofs.Founding.{seats_fresh}
use Rattle.serve_program.proofs.serve.serve_lined.Goals as goal

-- all seats of a new table are fresh
pub run_cluster-requires-clause-fresh : goal.run_cluster-requires-clause-fresh
run_cluster-requires-clause-fresh g c κs within = seats_fresh c.in-Ok.mail c.args.config.members c.in-Ok.seats.items c.in-Ok.ensures.seats

-- a runtime with its lines in a ring crosses as the runtime does
pub start_porters-requires-send-R : goal.start_porters-requires-send-R
start_porters-requires-send-R g c κs within = let r = c.type_bounds.send-R in let s = lined_send in search sendable depth 10

pub watch_input-requires-send-R : goal.watch_input-requires-send-R
watch_input-requires-send-R g c κs within = let r = c.type_bounds.send-R in let s = lined_send in search sendable depth 10

pub run_cluster-requires-sync-R : goal.run_cluster-requires-sync-R
run_cluster-requires-sync-R g c κs within = let r = c.type_bounds.sync-R in let s = lined_sync in search sendable depth 10
