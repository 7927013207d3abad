-- A connection's node end and a node's door may go to another thread, as what goes through a connection's rings may.
use denote.Param.Send.{IsSend, IsSync, sendable}
use Rattle.std.proofs.Crossing as heap
use Rattle.rtrb.proofs.end.End.TheSendSync as end
use Rattle.client_listener.proofs.Sendable.{from_client_send, to_client_send}
use Rattle.serve_connections.specs.contracts.bell.Bell as bell
use Rattle.serve_connections.specs.contracts.shared.SharedConnection as shared
use Rattle.serve_connections.specs.contracts.requests.Handed as handed
use Rattle.serve_connections.specs.contracts.requests.RequestReceiver as requests
use Rattle.serve_connections.specs.contracts.node_connection.NodeConnection as held
use Rattle.serve_connections.specs.contracts.node_connection.Arrival as arrival
use Rattle.serve_connections.specs.contracts.door.Door as door

bell_send : IsSend bell.the_field.row
bell_send = search (sendable, heap.crosses) depth 20

bell_sync : IsSync bell.the_field.row
bell_sync = search (sendable, heap.crosses) depth 20

shared_send : IsSend shared.the_field.row
shared_send = let b = bell_send in let c = bell_sync in search (sendable, heap.crosses) depth 20

shared_sync : IsSync shared.the_field.row
shared_sync = let b = bell_send in let c = bell_sync in search (sendable, heap.crosses) depth 20

held_send : IsSend held.the_field.row
held_send = let s = shared_send in let t = shared_sync in search (sendable, heap.crosses) depth 20

handed_send : IsSend handed.the_field.row
handed_send = let i = from_client_send in search (sendable, heap.crosses, end.the_send) depth 30

requests_send : IsSend requests.the_field.row
requests_send = let h = handed_send in let i = from_client_send in search (sendable, heap.crosses, end.the_send) depth 30

pub arrival_send : IsSend arrival.the_field.row
arrival_send = let l = held_send in let r = requests_send in let o = to_client_send in search (sendable, heap.crosses, end.the_send) depth 30

pub door_send : IsSend door.the_field.row
door_send = search (sendable, heap.crosses) depth 30
