use Rattle.std.proofs.Common.{◌≡◌, List, ap, ◌∙◌, rules}
use Rattle.paxos_packets.specs.declared.vote.Vote.{Vote}
use Rattle.paxos_packets.specs.Vote.{put_vote, put_votes}
use Rattle.paxos_packets.proofs.Ascending.{ascends}
use Rattle.paxos_planning.proofs.Putting.{votes_put}
use Rattle.paxos_planning.proofs.draft.put_copy.Goals as goal

pub returns-clause-rows : goal.returns-clause-rows
returns-clause-rows g c = λ rows.
    let put : c.put.new.self ≡ put_vote c.args.vote.now c.args.votes.now = search rules in
    ap (λ (vs : List (Vote g.row.B.Denot)). put_votes vs rows) put
    ∙ votes_put c.args.vote.now c.args.votes.now rows (ascends c.args.votes.now c.as_slice-before.ensures.ascending)
