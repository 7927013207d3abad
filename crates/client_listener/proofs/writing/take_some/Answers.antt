use Rattle.std.proofs.Common.{◌≡◌, ℕ, length, [], List, true, false, Ok, Err, subst, arith, ap}
use Rattle.std.proofs.lemmas.Grind.{common_steps}
use Rattle.rtrb.specs.Ring.{received, known_items}
use Rattle.client_listener.specs.Gathering.{Gathers}
use Rattle.client_listener.proofs.Sending.{goes_on, write_fails, spends, closes, refuses, empty_now}
use Rattle.client_listener.proofs.writing.take_some.Goals as goal

pub returns-in_default-clause-steps : goal.returns-in_default-clause-steps
returns-in_default-clause-steps g c known before old none u =
    let allows = g.P.Protocol.allows in
    let limit = c.args.outbox.now.limit in
    let gathered = c.gather-gathered in
    let after = received c.args.consumer.now in
    let after' = received gathered.new.consumer in
    let here = length (known_items c.args.consumer.now) in
    let here' = length (known_items gathered.new.consumer) in
    let now = g.W.Write.contents c.args.writer.now in
    let later = g.W.Write.contents c.write_all.new.writer in
    let waiting = gathered.new.self.octets in
    let cut = c.in_default.ensures.clears in
    write_fails allows limit known before old after after' here here' now later waiting gathered.result u
    (subst (λ (o : List ℕ). Gathers allows limit gathered.result after after' o waiting) none gathered.ensures.gathers)
    gathered.ensures.known c.write_all.new.outbox.octets cut.1.0 cut.1.1 cut.1.2

pub returns-in-Ok-false-clause-steps : goal.returns-in-Ok-false-clause-steps
returns-in-Ok-false-clause-steps g c known before old none u =
    let allows = g.P.Protocol.allows in
    let limit = c.args.outbox.now.limit in
    let gathered = c.gather-gathered in
    let after = received c.args.consumer.now in
    let after' = received gathered.new.consumer in
    let here = length (known_items c.args.consumer.now) in
    let here' = length (known_items gathered.new.consumer) in
    let now = g.W.Write.contents c.args.writer.now in
    let later = g.W.Write.contents c.write_all.new.writer in
    let waiting = gathered.new.self.octets in
    let arm = c.in-Ok-false in
    let all : Gathers allows limit (Ok false) after after' [] waiting =
    subst (λ (o : List ℕ). Gathers allows limit (Ok false) after after' o waiting) none (rw arm.field-0-test at arm.ensures.gathers) in
    closes allows limit known before old after after' here here' now later waiting (Ok false) u all gathered.ensures.known all.is_left
    c.in-Ok.ensures.clears.1

pub returns-in-Err-clause-steps : goal.returns-in-Err-clause-steps
returns-in-Err-clause-steps g c known before old none u =
    let allows = g.P.Protocol.allows in
    let limit = c.args.outbox.now.limit in
    let gathered = c.gather-gathered in
    let after = received c.args.consumer.now in
    let after' = received gathered.new.consumer in
    let here = length (known_items c.args.consumer.now) in
    let here' = length (known_items gathered.new.consumer) in
    let now = g.W.Write.contents c.args.writer.now in
    let later = g.W.Write.contents c.write_all.new.writer in
    let waiting = gathered.new.self.octets in
    let arm = c.in-Err in
    let all : Gathers allows limit (Err arm.fault) after after' [] waiting =
    subst (λ (o : List ℕ). Gathers allows limit (Err arm.fault) after after' o waiting) none arm.ensures.gathers in
    refuses allows limit known before old after after' here here' now later waiting (Err arm.fault) u all gathered.ensures.known arm.fault
    all.is_left c.in-Ok.ensures.clears.1

pub returns-then-not-is_vain-clause-steps : goal.returns-then-not-is_vain-clause-steps
returns-then-not-is_vain-clause-steps g c known before old none u =
    let allows = g.P.Protocol.allows in
    let limit = c.args.outbox.now.limit in
    let gathered = c.gather-gathered in
    let after = received c.args.consumer.now in
    let after' = received gathered.new.consumer in
    let here = length (known_items c.args.consumer.now) in
    let here' = length (known_items gathered.new.consumer) in
    let now = g.W.Write.contents c.args.writer.now in
    let later = g.W.Write.contents c.write_all.new.writer in
    let waiting = gathered.new.self.octets in
    let arm = c.in-Ok-true in
    let all : Gathers allows limit (Ok true) after after' [] waiting =
    subst (λ (o : List ℕ). Gathers allows limit (Ok true) after after' o waiting) none (rw arm.field-0-test at arm.ensures.gathers) in (
      goes_on allows limit known before old after after' here here' now later waiting (Ok true) u all gathered.ensures.known all.is_left
          c.in-Ok.ensures.clears.1,
      c.in-Ok.ensures.clears.0,
    )

pub returns-then-not-spend-clause-steps : goal.returns-then-not-spend-clause-steps
returns-then-not-spend-clause-steps g c known before old none u =
    let allows = g.P.Protocol.allows in
    let limit = c.args.outbox.now.limit in
    let gathered = c.gather-gathered in
    let after = received c.args.consumer.now in
    let after' = received gathered.new.consumer in
    let here = length (known_items c.args.consumer.now) in
    let here' = length (known_items gathered.new.consumer) in
    let now = g.W.Write.contents c.args.writer.now in
    let later = g.W.Write.contents c.write_all.new.writer in
    let waiting = gathered.new.self.octets in
    let arm = c.in-Ok-true in
    let all : Gathers allows limit (Ok true) after after' [] waiting =
    subst (λ (o : List ℕ). Gathers allows limit (Ok true) after after' o waiting) none (rw arm.field-0-test at arm.ensures.gathers) in
    let bare : length waiting ≡ 0 = grind (arith, common_steps) in
    spends allows limit known before old after after' here here' now later waiting (Ok true) u all gathered.ensures.known all.is_left
    (ap length (empty_now (known_items gathered.new.consumer) waiting (arm.ensures.empty (ap Ok arm.field-0-test)) bare))
    c.in-Ok.ensures.clears.1

pub returns-clause-steps : goal.returns-clause-steps
returns-clause-steps g c known before old none u =
    let allows = g.P.Protocol.allows in
    let limit = c.args.outbox.now.limit in
    let gathered = c.gather-gathered in
    let after = received c.args.consumer.now in
    let after' = received gathered.new.consumer in
    let here = length (known_items c.args.consumer.now) in
    let here' = length (known_items gathered.new.consumer) in
    let now = g.W.Write.contents c.args.writer.now in
    let later = g.W.Write.contents c.write_all.new.writer in
    let waiting = gathered.new.self.octets in
    let arm = c.in-Ok-true in
    let all : Gathers allows limit (Ok true) after after' [] waiting =
    subst (λ (o : List ℕ). Gathers allows limit (Ok true) after after' o waiting) none (rw arm.field-0-test at arm.ensures.gathers) in (
      goes_on allows limit known before old after after' here here' now later waiting (Ok true) u all gathered.ensures.known all.is_left
          c.in-Ok.ensures.clears.1,
      c.in-Ok.ensures.clears.0,
    )
