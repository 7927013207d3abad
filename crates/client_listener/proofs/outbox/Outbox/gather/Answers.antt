use Rattle.std.proofs.Common.{◌≤◌, ℕ, length, true, false, Ok, Err, subst, rules, ◌∙◌, le_trans, arith}
use Rattle.std.proofs.lemmas.Grind.{common_steps}
use Rattle.rtrb.specs.Ring.{received, known_items}
use Rattle.client_listener.specs.Outbox.{Hears}
use Rattle.client_listener.specs.Writing.{most_waiting}
use Rattle.client_listener.proofs.Gathering.{goes_on, closes, refuses, known_popped}
use Rattle.client_listener.proofs.outbox.Outbox.gather.Goals as goal

pub items-preserved : goal.items-preserved
items-preserved g c =
    let pop = c.in-Ok.ensures.ok in
    let kept = c.items.invariant in
    let few : length c.items.self.octets ≤ most_waiting = grind (arith, common_steps) in
    let hears = subst (λ (limit : ℕ). Hears limit c.in-Ok.item (Ok true) c.items.self.octets c.hear-heard.new.self.octets) kept.limit
    (rw c.in-Ok-true.field-0-test at c.in-Ok-true.ensures.hears) in
    record {
      gathered = goes_on g.P.Protocol.allows c.args.self.now.limit (received c.args.consumer.now) c.args.self.now.octets
          (received c.items.consumer) (received c.pop.new.self) c.items.self.octets c.in-Ok.item kept.gathered pop.0 pop.2 few
          c.hear-heard.new.self.octets hears.0 hears.1;
      known = le_trans kept.known (known_popped (received c.items.consumer) (received c.pop.new.self) (known_items c.items.consumer)
          (known_items c.pop.new.self) c.in-Ok.item pop.0 pop.1);
      limit = c.hear-heard.ensures.limit ∙ kept.limit;
      same = search rules;
    }

pub returns-in-Ok-false-clause-gathers : goal.returns-in-Ok-false-clause-gathers
returns-in-Ok-false-clause-gathers g c =
    let pop = c.in-Ok.ensures.ok in
    let kept = c.items.invariant in
    let few : length c.items.self.octets ≤ most_waiting = grind (arith, common_steps) in
    closes g.P.Protocol.allows c.args.self.now.limit (received c.args.consumer.now) c.args.self.now.octets
    (received c.items.consumer) (received c.pop.new.self) c.items.self.octets c.in-Ok.item kept.gathered pop.0 pop.2 few
    c.hear-heard.new.self.octets
    (subst (λ (limit : ℕ). Hears limit c.in-Ok.item (Ok false) c.items.self.octets c.hear-heard.new.self.octets) kept.limit
    (rw c.in-Ok-false.field-0-test at c.in-Ok-false.ensures.hears))

pub returns-in-Ok-false-clause-known : goal.returns-in-Ok-false-clause-known
returns-in-Ok-false-clause-known g c =
    let pop = c.in-Ok.ensures.ok in
    le_trans c.items.invariant.known (known_popped (received c.items.consumer) (received c.pop.new.self) (known_items c.items.consumer)
    (known_items c.pop.new.self) c.in-Ok.item pop.0 pop.1)

pub returns-in-Err-clause-gathers : goal.returns-in-Err-clause-gathers
returns-in-Err-clause-gathers g c =
    let pop = c.in-Ok.ensures.ok in
    let kept = c.items.invariant in
    let few : length c.items.self.octets ≤ most_waiting = grind (arith, common_steps) in
    refuses g.P.Protocol.allows c.args.self.now.limit (received c.args.consumer.now) c.args.self.now.octets
    (received c.items.consumer) (received c.pop.new.self) c.items.self.octets c.in-Ok.item kept.gathered pop.0 pop.2 few c.in-Err.fault
    c.hear-heard.new.self.octets
    (subst (λ (limit : ℕ). Hears limit c.in-Ok.item (Err c.in-Err.fault) c.items.self.octets c.hear-heard.new.self.octets) kept.limit
    c.in-Err.ensures.hears)

pub returns-in-Err-clause-known : goal.returns-in-Err-clause-known
returns-in-Err-clause-known g c =
    let pop = c.in-Ok.ensures.ok in
    le_trans c.items.invariant.known (known_popped (received c.items.consumer) (received c.pop.new.self) (known_items c.items.consumer)
    (known_items c.pop.new.self) c.in-Ok.item pop.0 pop.1)
