-- Without entries all is in order, and no kind occurs.
use Rattle.wamp_patterns.proofs.Chosen.{nothing_tells, nothing_ordered}
use Rattle.wamp_ids.specs.declared.policy.Match.TheVariants.{Exact, Prefix, Wildcard}
use Rattle.wamp_patterns.proofs.table.PatternTable.new.Goals as goal

pub invariant_of-result : goal.invariant_of-result
invariant_of-result g c = (
  nothing_ordered c.new.result.texts c.new-2.result.texts c.new-3.result.texts c.new.ensures.texts c.new-2.ensures.texts c.new-3.ensures.texts,
  nothing_tells Exact c.new.result.texts c.new.result.kinds c.new.ensures.texts c.new.ensures.kinds,
  nothing_tells Prefix c.new-2.result.texts c.new-2.result.kinds c.new-2.ensures.texts c.new-2.ensures.kinds,
  nothing_tells Wildcard c.new-3.result.texts c.new-3.result.kinds c.new-3.ensures.texts c.new-3.ensures.kinds,
)
