use denote.Param.Send.{sendable}
use Rattle.std.proofs.Crossing as heap
use Rattle.rtrb.proofs.end.End.TheSendSync as end
use Rattle.client_listener.proofs.Sendable.{to_client_send}
use Rattle.listener_tests.proofs.threads.ten_thousand_messages_of_another_thread_are_written.Goals as goal

pub join-handed-requires-send-F : goal.join-handed-requires-send-F
join-handed-requires-send-F c κs = let item = to_client_send in search (sendable, heap.crosses, end.the_send) depth 20
