use Rattle.std.proofs.Common.{◌≡◌, ◌≤◌, ◌+◌, ◌^◌, [], length}
use Rattle.rtrb.specs.Ring.{received, known_items, SameConsumer}
use Rattle.client_listener.specs.WritingSteps.{Underway}
use Rattle.client_listener.proofs.writing.take_transport.Given as goal

abbrev pub invariant-loop-step : goal.invariant-loop-step
invariant-loop-step g l = record {
  underway : Underway g.P.Protocol.allows l.fn.limit (length (known_items l.fn.consumer)) (received l.fn.consumer) (received l.consumer)
      (length (known_items l.consumer)) (g.W.Write.contents l.fn.writer) (g.W.Write.contents l.writer);
  counted : l._step + l.turns + length (received l.fn.consumer) ≤ 2 ^ 32 + length (received l.consumer);
  empty : l.outbox.octets ≡ [];
  limit : l.outbox.limit ≡ l.fn.limit;
  same : SameConsumer l.fn.consumer l.consumer;
}
