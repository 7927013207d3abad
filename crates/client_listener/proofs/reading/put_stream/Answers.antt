use Rattle.std.proofs.Common.{rules}
use Rattle.client_listener.proofs.reading.put_stream.Goals as goal

pub turns-preserved : goal.turns-preserved
turns-preserved g c =
    let arm = c.in-Ok-true in
    record {
      underway = λ most free start before u.
          rw arm.field-0-test at (arm.ensures.turns most free start before (c.turns.invariant.underway most free start before u));
      same = search rules;
    }

pub returns-in-Ok-false-clause-puts : goal.returns-in-Ok-false-clause-puts
returns-in-Ok-false-clause-puts g c most free start before u =
    rw c.in-Ok-false.field-0-test at
    (c.in-Ok-false.ensures.turns most free start before (c.turns.invariant.underway most free start before u))

pub returns-in-Err-clause-puts : goal.returns-in-Err-clause-puts
returns-in-Err-clause-puts g c most free start before u =
    c.in-Err.ensures.turns most free start before (c.turns.invariant.underway most free start before u)
