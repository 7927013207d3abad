use Rattle.realm_calls.proofs.Indexes.{indexed_with, request_back, invocation_back}
use Rattle.realm_calls.proofs.open_calls.OpenCalls.push.Goals as goal

pub invariant_of-self-in_default-put_key : goal.invariant_of-self-in_default-put_key
invariant_of-self-in_default-put_key c =
    let new = rw (← c.self.view_is) at c.requires.new in
    rw c.in_default-put_key.ensures.err
    (record {
      requests_index = request_back c.self.inside.rows c.self.inside.requests c.put_key.new.index c.remove_key.new.index c.in-Some.place
          c.args.call new c.in_ok-put_key.ensures.ok c.remove_key.ensures c.self.invariant.requests_index;
      invocations_index = c.self.invariant.invocations_index;
      counted = c.self.invariant.counted;
    })

pub invariant_of-self-in-Ok-put_row : goal.invariant_of-self-in-Ok-put_row
invariant_of-self-in-Ok-put_row c =
    let new = rw (← c.self.view_is) at c.requires.new in
    let free = rw (← c.self.view_is) at c.requires.free in
    let counted = rw c.in-Ok-put_row.ensures.ok at c.in-Ok-put_row.ensures.counted in
    rw c.in-Ok-put_row.ensures.ok
    (indexed_with c.self.inside.rows c.self.inside.requests c.self.inside.invocations c.put_key.new.index c.put_key-2.new.index
    c.self.inside.counts c.put_row.new.counts c.in-Some.place c.args.call c.in-Some.ensures.above new free c.in_ok-put_key.ensures.ok
    c.in-Ok.ensures.ok counted c.self.invariant)

pub invariant_of-self-in_default-put_row : goal.invariant_of-self-in_default-put_row
invariant_of-self-in_default-put_row c =
    let new = rw (← c.self.view_is) at c.requires.new in
    let free = rw (← c.self.view_is) at c.requires.free in
    let counted = rw c.in_default-put_row.ensures.err at c.in_default-put_row.ensures.counted in
    rw c.in_default-put_row.ensures.err
    (record {
      requests_index = request_back c.self.inside.rows c.self.inside.requests c.put_key.new.index
          c.remove_key-in_default-put_row.new.index c.in-Some.place c.args.call new c.in_ok-put_key.ensures.ok
          c.remove_key-in_default-put_row.ensures c.self.invariant.requests_index;
      invocations_index = invocation_back c.self.inside.rows c.self.inside.invocations c.put_key-2.new.index
          c.remove_key-in_default-put_row-2.new.index c.in-Some.place c.args.call free c.in-Ok.ensures.ok
          c.remove_key-in_default-put_row-2.ensures c.self.invariant.invocations_index;
      counted = counted;
    })
