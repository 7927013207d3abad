use denote.Param.Send.{sendable}
use Rattle.std.proofs.Crossing as heap
use Rattle.rtrb.proofs.end.End.TheSendSync as end
use Rattle.serve_connections.proofs.Crossing.{arrival_send, door_send}
use Rattle.listener_tests.proofs.house.start.Goals as goal

pub spawn-requires-send-F : goal.spawn-requires-send-F
spawn-requires-send-F g c κs = let a = arrival_send in let d = door_send in let r = c.type_bounds.send-R in search (sendable, heap.crosses, end.the_send) depth 20
