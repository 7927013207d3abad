use Rattle.std.proofs.Common.{rules, le_trans, le_of_lt}
use Rattle.rtrb.specs.Ring.{sent, known_free}
use Rattle.client_listener.proofs.Putting.{all_put, put_ends, waited, wait_ends}
use Rattle.client_listener.proofs.reading.put_all.Goals as goal

pub returns-in-Ok-true-clause-puts : goal.returns-in-Ok-true-clause-puts
returns-in-Ok-true-clause-puts g c most free start before v =
    let u = c.tries.invariant.underway most free start before v in
    let now = g.R.Read.remaining c.tries.reader in
    let after = sent c.tries.producer in
    let known = known_free c.tries.producer in
    let turns = c.tries.turns in
    let after' = sent c.put.new.producer in
    let known' = known_free c.put.new.producer in
    let pending' = c.put.new.self in
    let arm = c.in-Ok-true in
    all_put most free start before now after known turns c.tries.intake u after' known' pending' arm.ensures.room.0 arm.ensures.room.1
    (rw arm.field-0-test at (arm.ensures.puts u.octets before u.inflow))

pub returns-in-Err-clause-puts : goal.returns-in-Err-clause-puts
returns-in-Err-clause-puts g c most free start before v =
    let u = c.tries.invariant.underway most free start before v in
    let now = g.R.Read.remaining c.tries.reader in
    let after = sent c.tries.producer in
    let known = known_free c.tries.producer in
    let turns = c.tries.turns in
    let after' = sent c.put.new.producer in
    let known' = known_free c.put.new.producer in
    let pending' = c.put.new.self in
    let arm = c.in-Err in
    put_ends most free start before now after known turns c.tries.intake u after' known' pending' arm.ensures.room.0 arm.ensures.room.1
    arm.fault (arm.ensures.puts u.octets before u.inflow)

pub returns-then-not-wait-clause-puts : goal.returns-then-not-wait-clause-puts
returns-then-not-wait-clause-puts g c most free start before v =
    let u = c.tries.invariant.underway most free start before v in
    let now = g.R.Read.remaining c.tries.reader in
    let after = sent c.tries.producer in
    let known = known_free c.tries.producer in
    let turns = c.tries.turns in
    let after' = sent c.put.new.producer in
    let known' = known_free c.put.new.producer in
    let pending' = c.put.new.self in
    let arm = c.in-Ok-false in
    let looked = c.wait.ensures.looked in
    wait_ends most free start before now after known turns c.tries.intake u after' known' pending' arm.ensures.room.0 arm.ensures.room.1
    (search rules) (rw arm.field-0-test at (arm.ensures.puts u.octets before u.inflow)) (g.R.Read.remaining c.wait.new.reader)
    (sent c.wait.new.producer) (known_free c.wait.new.producer) c.wait.ensures.reads looked.1 looked.2 c.wait.new.turns
    c.if-not-wait.ensures.spends

pub tries-preserved : goal.tries-preserved
tries-preserved g c =
    let arm = c.in-Ok-false in
    let looked = c.wait.ensures.looked in
    record {
      underway = λ most free start before v.
          let u = c.tries.invariant.underway most free start before v in
          waited most free start before (g.R.Read.remaining c.tries.reader) (sent c.tries.producer) (known_free c.tries.producer)
          c.tries.turns c.tries.intake u (sent c.put.new.producer) (known_free c.put.new.producer) c.put.new.self arm.ensures.room.0
          arm.ensures.room.1 (search rules) (rw arm.field-0-test at (arm.ensures.puts u.octets before u.inflow))
          (g.R.Read.remaining c.wait.new.reader) (sent c.wait.new.producer) (known_free c.wait.new.producer) c.wait.ensures.reads
          looked.1 looked.2 c.wait.new.turns;
      fewer = le_trans (le_of_lt c.if-not-wait.ensures.spends) c.tries.invariant.fewer;
      same = search rules;
    }
