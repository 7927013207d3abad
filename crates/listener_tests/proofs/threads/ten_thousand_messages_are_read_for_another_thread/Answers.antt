use denote.Param.Send.{sendable}
use Rattle.std.proofs.Crossing as heap
use Rattle.rtrb.proofs.end.End.TheSendSync as end
use Rattle.client_listener.proofs.Sendable.{from_client_send}
use Rattle.listener_tests.proofs.threads.ten_thousand_messages_are_read_for_another_thread.Goals as goal

pub join-messages-requires-send-F : goal.join-messages-requires-send-F
join-messages-requires-send-F c κs = let item = from_client_send in search (sendable, heap.crosses, end.the_send) depth 20
