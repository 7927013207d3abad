use Rattle.std.proofs.Common.{rules}
use Rattle.store_keeper.proofs.memory.MemKeeperKeeper.commit.Goals as goal

pub returns-then-stops : goal.returns-then-stops
returns-then-stops g c = search rules

pub invariant_of-self-then-stops : goal.invariant_of-self-then-stops
invariant_of-self-then-stops g c = search rules
