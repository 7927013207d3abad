use Rattle.std.proofs.lemmas.Result.{IfOk-weaker}
use Rattle.paxos_packets.proofs.Ascending.{ascends, ascending}
use Rattle.paxos_packets.proofs.Behind.{behind, behind_ascending}
use Rattle.paxos_packets.proofs.vote.copy_behind.Goals as goal

pub returns-clause-copies : goal.returns-clause-copies
returns-clause-copies g c =
    IfOk-weaker c.copy_all.result _ _
    (λ copies e. behind c.args.first c.place_of-place.result c.args.votes.now copies.items (ascends _ c.requires)
    c.place_of-place.ensures.place e)
    c.copy_all.ensures

pub returns-clause-ascending : goal.returns-clause-ascending
returns-clause-ascending g c =
    IfOk-weaker c.copy_all.result _ _
    (λ copies e. ascending _ (behind_ascending c.place_of-place.result c.args.votes.now copies.items (ascends _ c.requires) e))
    c.copy_all.ensures
