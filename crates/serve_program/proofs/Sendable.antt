-- Acts are held by several nodes at a time, and go through boxes in packets. The check looks for this by itself, but gives up at the
-- 22 kinds of a message, whose arguments hold one another; so a kind is shown from its fields, a message from its kinds, a packet from
-- its entries.
use denote.Param.Send.{IsSend, IsSync, sendable, enum_send, enum_sync}
use denote.Enum.Declared.{shape}
use Rattle.std.proofs.Crossing as heap
use Rattle.std.proofs.MapsCrossing as maps
use Rattle.wamp_ids.specs.contracts.text.Text as text
use Rattle.wamp_values.specs.contracts.args.Arguments as arguments
use Rattle.wamp_values.specs.contracts.args.ArgumentsKw as arguments_kw
use Rattle.wamp_values.specs.contracts.args.Args as args
use Rattle.wamp_message_types.specs.contracts.session.Hello as hello
use Rattle.wamp_message_types.specs.contracts.session.Welcome as welcome
use Rattle.wamp_message_types.specs.contracts.session.Abort as abort
use Rattle.wamp_message_types.specs.contracts.session.Goodbye as goodbye
use Rattle.wamp_message_types.specs.contracts.error.Error as error
use Rattle.wamp_message_types.specs.contracts.publish.Publish as publish
use Rattle.wamp_message_types.specs.contracts.publish.Published as published
use Rattle.wamp_message_types.specs.contracts.subscribe.Subscribe as subscribe
use Rattle.wamp_message_types.specs.contracts.subscribe.Subscribed as subscribed
use Rattle.wamp_message_types.specs.contracts.publish.Event as event
use Rattle.wamp_message_types.specs.contracts.subscribe.Unsubscribe as unsubscribe
use Rattle.wamp_message_types.specs.contracts.subscribe.Unsubscribed as unsubscribed
use Rattle.wamp_message_types.specs.contracts.register.Register as register
use Rattle.wamp_message_types.specs.contracts.register.Registered as registered
use Rattle.wamp_message_types.specs.contracts.register.Unregister as unregister
use Rattle.wamp_message_types.specs.contracts.register.Unregistered as unregistered
use Rattle.wamp_message_types.specs.contracts.call.Call as call
use Rattle.wamp_message_types.specs.contracts.call.Cancel as cancel
use Rattle.wamp_message_types.specs.contracts.call.CallResult as reply
use Rattle.wamp_message_types.specs.contracts.call.Invocation as invocation
use Rattle.wamp_message_types.specs.contracts.call.Interrupt as interrupt
use Rattle.wamp_message_types.specs.contracts.call.Yield as yield
use Rattle.wamp_message_types.specs.contracts.message.Message as message
use Rattle.wamp_message_types.specs.contracts.read_result.Read as read
use Rattle.paxos_packets.specs.contracts.entry.Entry as entry
use Rattle.paxos_packets.specs.contracts.entry.Entries as entries
use Rattle.paxos_packets.specs.contracts.slot.Slot as slot
use Rattle.paxos_packets.specs.contracts.slot.Floor as floor
use Rattle.paxos_packets.specs.contracts.snapshot.Snapshot as snapshot
use Rattle.paxos_packets.specs.contracts.ballot.Ballot as ballot
use Rattle.paxos_packets.specs.contracts.vote.Vote as vote
use Rattle.paxos_packets.specs.contracts.vote.Votes as votes
use Rattle.paxos_packets.specs.contracts.packet.Kind as kind
use Rattle.paxos_packets.specs.contracts.packet.Packet as packet
use Rattle.realm_acts.specs.contracts.act.ActBody.TheImpl as body
use Rattle.realm_acts.specs.contracts.act.Act as act
use Rattle.client_listener.proofs.Sendable.{payload_send, payload_sync, read_send}
use Rattle.mail_table.specs.contracts.mail.Mail as mail
use denote.RattleType.{RattleType}
use denote.Ref.{NamedLft}
use Rattle.rtrb.proofs.end.End.TheSendSync as end
use Rattle.serve_connections.proofs.Crossing.{arrival_send}
use Rattle.serve_program.specs.declared.cluster.Cluster as cluster
use Rattle.serve_program.specs.contracts.cluster.FreshSeat as fresh_seat
use Rattle.serve_program.specs.contracts.cluster.Left as left
use Rattle.serve_program.specs.contracts.fault.NodeEnd as node_end
use Rattle.serve_program.specs.contracts.nodes.End as ended
use Rattle.serve_program.specs.contracts.station.Station as station
use Rattle.mail_table.specs.contracts.seat.NodeSeat as node_seat
use Rattle.mail_table.specs.contracts.office.Mark as mark
use Rattle.atomic_table.proofs.shared.Shared.TheSendSync as shared
use Rattle.atomic_table.proofs.shared.Seat.TheSendSync as seat
use Rattle.atomic_table.proofs.send_lease.SendLease.TheSendSync as lease
use Rattle.logbook.proofs.tokens.Seen.TheSendSync as seen

-- ---- fields

text_sync : IsSync text.the_field.row
text_sync = search (sendable, heap.crosses, maps.crosses) depth 20

arguments_sync : IsSync arguments.the_field.row
arguments_sync = let v = payload_send in let w = payload_sync in search (sendable, heap.crosses) depth 20

arguments_kw_sync : IsSync arguments_kw.the_field.row
arguments_kw_sync = let v = payload_send in let w = payload_sync in search (sendable, heap.crosses) depth 20

args_sync : IsSync args.the_field.row
args_sync = let v = arguments_sync in let w = arguments_kw_sync in search sendable depth 20

-- ---- kinds

hello_sync : IsSync hello.the_field.row
hello_sync = let t = text_sync in let a = args_sync in search sendable depth 20

welcome_sync : IsSync welcome.the_field.row
welcome_sync = let t = text_sync in let a = args_sync in search sendable depth 20

abort_sync : IsSync abort.the_field.row
abort_sync = let t = text_sync in let a = args_sync in search sendable depth 20

goodbye_sync : IsSync goodbye.the_field.row
goodbye_sync = let t = text_sync in let a = args_sync in search sendable depth 20

error_sync : IsSync error.the_field.row
error_sync = let t = text_sync in let a = args_sync in search sendable depth 20

publish_sync : IsSync publish.the_field.row
publish_sync = let t = text_sync in let a = args_sync in search sendable depth 20

published_sync : IsSync published.the_field.row
published_sync = let t = text_sync in let a = args_sync in search sendable depth 20

subscribe_sync : IsSync subscribe.the_field.row
subscribe_sync = let t = text_sync in let a = args_sync in search sendable depth 20

subscribed_sync : IsSync subscribed.the_field.row
subscribed_sync = let t = text_sync in let a = args_sync in search sendable depth 20

event_sync : IsSync event.the_field.row
event_sync = let t = text_sync in let a = args_sync in search sendable depth 20

unsubscribe_sync : IsSync unsubscribe.the_field.row
unsubscribe_sync = let t = text_sync in let a = args_sync in search sendable depth 20

unsubscribed_sync : IsSync unsubscribed.the_field.row
unsubscribed_sync = let t = text_sync in let a = args_sync in search sendable depth 20

register_sync : IsSync register.the_field.row
register_sync = let t = text_sync in let a = args_sync in search sendable depth 20

registered_sync : IsSync registered.the_field.row
registered_sync = let t = text_sync in let a = args_sync in search sendable depth 20

unregister_sync : IsSync unregister.the_field.row
unregister_sync = let t = text_sync in let a = args_sync in search sendable depth 20

unregistered_sync : IsSync unregistered.the_field.row
unregistered_sync = let t = text_sync in let a = args_sync in search sendable depth 20

call_sync : IsSync call.the_field.row
call_sync = let t = text_sync in let a = args_sync in search sendable depth 20

cancel_sync : IsSync cancel.the_field.row
cancel_sync = let t = text_sync in let a = args_sync in search sendable depth 20

reply_sync : IsSync reply.the_field.row
reply_sync = let t = text_sync in let a = args_sync in search sendable depth 20

invocation_sync : IsSync invocation.the_field.row
invocation_sync = let t = text_sync in let a = args_sync in search sendable depth 20

interrupt_sync : IsSync interrupt.the_field.row
interrupt_sync = let t = text_sync in let a = args_sync in search sendable depth 20

yield_sync : IsSync yield.the_field.row
yield_sync = let t = text_sync in let a = args_sync in search sendable depth 20

-- ---- messages

message_sync : IsSync message.the_field.row
message_sync = enum_sync (shape message.the_type) (
  (hello_sync, tt),
  (
    (welcome_sync, tt),
    (
      (abort_sync, tt),
      (
        (goodbye_sync, tt),
        (
          (error_sync, tt),
          (
            (publish_sync, tt),
            (
              (published_sync, tt),
              (
                (subscribe_sync, tt),
                (
                  (subscribed_sync, tt),
                  (
                    (event_sync, tt),
                    (
                      (unsubscribe_sync, tt),
                      (
                        (unsubscribed_sync, tt),
                        (
                          (register_sync, tt),
                          (
                            (registered_sync, tt),
                            (
                              (unregister_sync, tt),
                              (
                                (unregistered_sync, tt),
                                (
                                  (call_sync, tt),
                                  (
                                    (cancel_sync, tt),
                                    (
                                      (reply_sync, tt),
                                      (
                                        (invocation_sync, tt),
                                        (
                                          (interrupt_sync, tt),
                                          (
                                            (yield_sync, tt),
                                            tt,
                                          ),
                                        ),
                                      ),
                                    ),
                                  ),
                                ),
                              ),
                            ),
                          ),
                        ),
                      ),
                    ),
                  ),
                ),
              ),
            ),
          ),
        ),
      ),
    ),
  ),
)

read_sync : IsSync read.the_field.row
read_sync = let m = message_sync in search sendable depth 20

-- ---- acts and packets

pub act_send : IsSend act.the_field.row
act_send = let r = read_send in let s = read_sync in search (sendable, heap.crosses) depth 20

pub act_row_send : IsSend act.the_row
act_row_send = let a = act_send in search sendable depth 5

entry_send : IsSend (entry.the_field act.the_row).row
entry_send = let a = act_row_send in search (sendable, heap.crosses) depth 20

slot_send : IsSend slot.the_field.row
slot_send = search sendable depth 20

ballot_send : IsSend ballot.the_field.row
ballot_send = search sendable depth 20

vote_send : IsSend (vote.the_field act.the_row).row
vote_send = let a = entry_send in let s = slot_send in let b = ballot_send in search (sendable, heap.crosses) depth 20

votes_send : IsSend (votes.the_field act.the_row).row
votes_send = let a = vote_send in search (sendable, heap.crosses) depth 20

entries_send : IsSend (entries.the_field act.the_row).row
entries_send = let a = entry_send in search (sendable, heap.crosses) depth 20

floor_send : IsSend floor.the_field.row
floor_send = search sendable depth 20

snapshot_send : IsSend snapshot.the_field.row
snapshot_send = let s = slot_send in search (sendable, heap.crosses) depth 20

kind_send : IsSend (kind.the_field act.the_row).row
kind_send = enum_send (shape (kind.the_type act.the_row)) (
  (ballot_send, (search sendable, tt)),
  (
    (ballot_send, (floor_send, (votes_send, tt))),
    (
      (vote_send, tt),
      (
        (vote_send, tt),
        (
          (ballot_send, (ballot_send, tt)),
          (
            (entries_send, tt),
            (
              (slot_send, (entry_send, tt)),
              (
                (search sendable, tt),
                (
                  (snapshot_send, tt),
                  tt,
                ),
              ),
            ),
          ),
        ),
      ),
    ),
  ),
)

pub packet_send : IsSend (packet.the_field act.the_row).row
packet_send = let k = kind_send in search (sendable, heap.crosses) depth 20

-- ---- the table and its seats

mark_send : IsSend mark.the_field.row
mark_send = search (sendable, heap.crosses, seen.the_send) depth 20

mark_sync : IsSync mark.the_field.row
mark_sync = search (sendable, heap.crosses, seen.the_sync) depth 20

pub seat_send : IsSend (node_seat.the_field act.the_row body.ghosts).row
seat_send = let p = packet_send in let m = mark_send in search (sendable, heap.crosses, seat.the_send) depth 20

pub mail_sync : IsSync (mail.the_field act.the_row body.ghosts).row
mail_sync = let p = packet_send in let m = mark_sync in search (sendable, heap.crosses, shared.the_sync, lease.the_sync) depth 20

node_end_send : IsSend node_end.the_field.row
node_end_send = search sendable depth 20

pub ended_send : IsSend ended.the_field.row
ended_send = let e = node_end_send in search sendable depth 20

fresh_seat_send : (κ : NamedLft) → IsSend (fresh_seat.the_field κ act.the_row body.ghosts).row
fresh_seat_send κ = let s = seat_send in let m = mail_sync in search (sendable, heap.crosses) depth 20

pub station_send : (κ : NamedLft) (C : RattleType) (g : cluster.Ghosts C.Denot) → IsSend C → IsSend (station.the_field κ C g).row
station_send κ C g c = let f = fresh_seat_send κ in let a = arrival_send in search (sendable, heap.crosses, end.the_send) depth 20

pub left_send : (C : RattleType) (g : cluster.Ghosts C.Denot) → IsSend C → IsSend (left.the_field C g).row
left_send C g c = let s = seat_send in search sendable depth 20
