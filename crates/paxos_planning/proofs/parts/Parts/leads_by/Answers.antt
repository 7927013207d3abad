use Rattle.std.proofs.Common.{◌≡◌, ◌≤◌, length, refl, sym, ◌∙◌, rules}
use Rattle.paxos_packets.specs.Snapshot.{floor_in}
use Rattle.paxos_proposer.specs.Promises.{promised, called_by}
use Rattle.paxos_planning.specs.Node.{log_length}
use Rattle.paxos_planning.proofs.OwnVotes.{called_is, past_is}
use Rattle.paxos_planning.proofs.parts.Parts.leads_by.Goals as goal

pub returns : goal.returns
returns g c =
    let w = c.args.self.now in
    let x = w.state in
    let called = c.in-Some.called in
    let own = floor_in x.rows.snapshot in
    let s = c.proposer.ensures in
    let floor : c.floor.result ≡ own = c.floor.ensures in
    let least : 1 ≤ c.past.result = search rules in (
      least,
      rw (c.ballot.ensures, c.applied.ensures.length) (called_is g.B.Body.same w.members w.me (log_length x) x.learner x.pending
          (promised w.members c.args.sender c.args.ballot c.args.floor c.args.votes.now own x.proposer.role)
          (called_by w.members c.args.sender c.args.ballot c.args.floor c.args.votes.now own x.proposer.role) called.ballot called.first called.votes
          c.past.result c.called_other.result
          (c.in-Some.ensures.called
          ∙ (λ i. called_by (s i).members c.args.sender c.args.ballot c.args.floor c.args.votes.now (floor i) (s i).proposer.role))
          (sym (λ i. promised (s i).members c.args.sender c.args.ballot c.args.floor c.args.votes.now (floor i) (s i).proposer.role)
          ∙ c.in-Some.ensures.role called refl)
          (past_is called.votes called.first c.past.result c.past.ensures.past c.past.ensures.least c.past.ensures.most) c.called_other.ensures),
    )
