use Rattle.std.proofs.Common.{rules}
use Rattle.std.proofs.lemmas.Fn.{filter_same}
use Rattle.paxos_node.proofs.waiting.keep_wanted.Goals as goal

pub returns : goal.returns
returns g c = λ stands is. filter_same _ _ _ (λ x b f' k. search rules) _ _ c.retain.ensures.filtered
