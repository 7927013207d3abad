use Rattle.std.proofs.Common.{◌≡◌, ◌<◌, false, sym, ◌∙◌, arith, rules}
use Rattle.paxos_learner.proofs.Counting.{open_above}
use Rattle.core_tests.proofs.learner.forget.Goals as goal

pub forget-requires : goal.forget-requires
forget-requires c =
    let n : c.is_closed.result ≡ false = search rules in
    let above : c.args.learner.now.state.learner.floor < c.args.slot =
    open_above c.args.learner.now.state.learner.floor c.args.slot (sym c.is_closed.ensures ∙ n) in
    omega (arith, above, c.at.ensures)
