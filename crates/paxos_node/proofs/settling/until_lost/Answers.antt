use Rattle.std.proofs.Common.{ap, drop, ◌+◌}
use Rattle.paxos_node.specs.Applying.{count_to_end, has_end}
use Rattle.paxos_node.proofs.Rolling.{rest_is, rest_none}
use Rattle.paxos_node.proofs.Counting.{counts_on, counts_last, counts_none}
use Rattle.paxos_node.proofs.settling.until_lost.Goals as goal

pub loop-entry-preserved : goal.loop-entry-preserved
loop-entry-preserved g c =
    let es = c.args.entries.now in
    let i = c.loop-entry.entry-index in
    let count = count_to_end c.args.me c.args.boot c.args.standing es in
    let end = has_end c.args.me c.args.boot c.args.standing es in (
      counts_on c.args.me c.args.boot c.loop-entry.now c.entry-item.result (drop (i + 1) es) (drop i es) c.loop-entry.count count end
          c.after-now.result c.if-ends_boot.ensures c.after-now.ensures (rest_is es i c.entry-item.result c.loop-entry-test.true c.entry-item.is)
          c.loop-entry.invariant.0,
      ap (λ n. n + 1) c.loop-entry.invariant.1,
    )

pub returns-then-ends_boot : goal.returns-then-ends_boot
returns-then-ends_boot g c =
    let es = c.args.entries.now in
    let i = c.loop-entry.entry-index in
    let last = counts_last c.args.me c.args.boot c.loop-entry.now c.entry-item.result (drop (i + 1) es) (drop i es) c.loop-entry.count
    (count_to_end c.args.me c.args.boot c.args.standing es) (has_end c.args.me c.args.boot c.args.standing es) c.if-ends_boot.ensures
    (rest_is es i c.entry-item.result c.loop-entry-test.true c.entry-item.is) c.loop-entry.invariant.0 in
    record { count = last.0; is_down = last.1 }

pub returns : goal.returns
returns g c =
    let es = c.args.entries.now in
    let i = c.loop-entry.entry-index in
    let none = counts_none c.args.me c.args.boot c.loop-entry.now (drop i es) c.loop-entry.count
    (count_to_end c.args.me c.args.boot c.args.standing es) (has_end c.args.me c.args.boot c.args.standing es)
    (rest_none es i c.loop-entry-test.false) c.loop-entry.invariant.0 in
    record { count = none.0; is_down = none.1 }
