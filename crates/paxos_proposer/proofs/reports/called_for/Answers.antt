use Rattle.std.proofs.Common.{◌≡◌, ◌++◌, ◌∙◌, refl, sym}
use Rattle.paxos_proposer.proofs.Reporting.{past_front, called_more}
use Rattle.paxos_proposer.specs.Reports.{reports, past_reports}
use Rattle.paxos_proposer.proofs.reports.called_for.Goals as goal

pub loop-slot-init : goal.loop-slot-init
loop-slot-init g c =
    let split = past_front c.args.first (reports c.args.promises.now) c.args.last.now in
    let past : c.past_in-past.result ≡ past_reports c.args.first (reports c.args.promises.now ++ c.args.last.now) =
    rw (c.past_in-past.ensures.past, c.as_slice.ensures.votes, c.past_of.ensures.past) (sym split) in
    rw (c.in_ok-entries.ensures.items, past) refl

pub loop-slot-preserved : goal.loop-slot-preserved
loop-slot-preserved g c =
    rw c.in_ok-push_called.ensures (called_more c.loop-slot.entries.items (reports c.args.promises.now ++ c.args.last.now) c.loop-slot.slot
    c.past_in-past.result c.loop-slot-test.true ∙ c.loop-slot.invariant)
