use Rattle.std.proofs.Common.{◌≡◌, ℕ, List, ◌∷◌, ◌+◌, drop, ap, sym, ◌∙◌}
use Rattle.paxos_packets.specs.declared.entry.Entry.{Entry}
use Rattle.replica_machine.specs.declared.roll.Standing.{Standing}
use Rattle.replica_machine.specs.Roll.{standings_after, standings_from}
use Rattle.paxos_node.specs.Adopting.{pending_behind}
use Rattle.paxos_node.proofs.Rolling.{rest_is, rest_none, roll_ends, pending_ends}
use Rattle.world_rescue.proofs.falling.apply_all.Goals as goal

pub loop-entry-preserved : goal.loop-entry-preserved
loop-entry-preserved g c = λ stands is.
    let so_far = c.loop-entry.invariant stands is in
    let now : ℕ → Standing = so_far.0 in
    let e : Entry g.row.B.Denot = c.entry-item.result in
    let more : List (Entry g.row.B.Denot) = drop (c.loop-entry.entry-index + 1) c.args.entries.now in
    let rest : drop c.loop-entry.entry-index c.args.entries.now ≡ e ∷ more =
    rest_is c.args.entries.now c.loop-entry.entry-index e c.loop-entry-test.true c.entry-item.is in (
      standings_after now e,
      c.apply.ensures.roll now so_far.1,
      ap (λ (l : List (Entry g.row.B.Denot)). standings_from now l) (sym rest) ∙ so_far.2,
      ap (λ (l : List (Entry g.row.B.Denot)). pending_behind (standings_after now e) more l) (c.apply.ensures.pending now so_far.1)
          ∙ ap (λ (l : List (Entry g.row.B.Denot)). pending_behind now l c.loop-entry.pending.items) (sym rest) ∙ so_far.3,
    )

pub returns-clause-roll : goal.returns-clause-roll
returns-clause-roll g c = λ stands is.
    let so_far = c.loop-entry.invariant stands is in
    roll_ends so_far.0 (standings_from stands c.args.entries.now) _ c.loop-entry.roll so_far.1 so_far.2
    (rest_none c.args.entries.now c.loop-entry.entry-index c.loop-entry-test.false)

pub returns-clause-pending : goal.returns-clause-pending
returns-clause-pending g c = λ stands is.
    let so_far = c.loop-entry.invariant stands is in
    pending_ends so_far.0 _ _ _ so_far.3 (rest_none c.args.entries.now c.loop-entry.entry-index c.loop-entry-test.false)
