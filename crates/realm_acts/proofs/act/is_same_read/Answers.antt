use Rattle.realm_acts.proofs.Same.{read_decided}
use Rattle.realm_acts.proofs.act.is_same_read.Goals as goal

pub returns : goal.returns
returns c = read_decided c.same.result c.args.read.now c.args.other.now c.same.ensures
