use Rattle.std.proofs.Common.{◌≡◌, ◌+◌, ◌≤◌, ◌++◌, length, vec_len, vec_capacity}
use Rattle.rtrb.specs.Ring.{known_items, received, SameConsumer}
use Rattle.client_listener.proofs.draining.take_known.Given as goal

abbrev pub invariant-loop : goal.invariant-loop
invariant-loop g l = record {
  rest : l.left.items ++ known_items l.consumer ≡ l.fn.left.items ++ known_items l.fn.consumer;
  order : received l.consumer ++ known_items l.consumer ≡ received l.fn.consumer ++ known_items l.fn.consumer;
  many : length (known_items l.consumer) + l.counter ≡ l.count;
  room : vec_len l.left + length (known_items l.consumer) ≤ vec_capacity l.left;
  same : SameConsumer l.fn.consumer l.consumer;
}
