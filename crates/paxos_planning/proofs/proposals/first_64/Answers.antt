use Rattle.std.proofs.Common.{sym, arith}
use Rattle.std.proofs.lemmas.List.{take_all}
use Rattle.paxos_planning.proofs.proposals.first_64.Goals as goal

pub returns-then-entries-lt64 : goal.returns-then-entries-lt64
returns-then-entries-lt64 g c = sym (take_all 64 c.args.entries.now (omega arith))
