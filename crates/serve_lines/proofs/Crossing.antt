-- A ring of lines is shared by threads, and a runtime with one crosses as its own runtime does.
use denote.Param.Send.{IsSend, IsSync, sendable}
use denote.RattleType.{RattleType}
use Rattle.std.proofs.Crossing as heap
use Rattle.atomic_table.proofs.shared.Shared.TheSendSync as shared
use Rattle.atomic_table.proofs.send_lease.SendLease.TheSendSync as lease
use Rattle.serve_lines.specs.contracts.lines.Lines as lines
use Rattle.serve_lines.specs.contracts.lined.Lined as lined

lines_send : IsSend lines.the_field.row
lines_send = search (sendable, heap.crosses, shared.the_send, lease.the_send) depth 30

lines_sync : IsSync lines.the_field.row
lines_sync = search (sendable, heap.crosses, shared.the_sync, lease.the_sync) depth 30

pub lined_send : (R : RattleType) → IsSend R → IsSend (lined.the_field R).row
lined_send R r = let s = lines_send in let t = lines_sync in search (sendable, heap.crosses) depth 20

pub lined_sync : (R : RattleType) → IsSync R → IsSync (lined.the_field R).row
lined_sync R r = let s = lines_send in let t = lines_sync in search (sendable, heap.crosses) depth 20
