use Rattle.std.proofs.Common.{◌≡◌, rules, ◌∙◌}
use Rattle.paxos_packets.specs.Body.{IsEquality}
use Rattle.paxos_packets.specs.Vote.{IsAscending}
use Rattle.paxos_acceptor.specs.Acceptor.{has_all}
use Rattle.paxos_acceptor.proofs.Having.{adds_nothing}
use Rattle.paxos_acceptor.proofs.acceptor.Acceptor.has_all.Goals as goal

pub returns-then-has_promise-clause-same : goal.returns-then-has_promise-clause-same
returns-then-has_promise-clause-same g c h =
    let equality : IsEquality g.B.Body.same = record { reflexive = g.met.B.Body.reflexive; sound = g.met.B.Body.sound } in
    let ascending : IsAscending c.args.self.now.rows.votes = search rules in
    let whole : has_all g.B.Body.same c.args.self.now.rows c.args.change.now ≡ c.has_votes.result = search rules in
    adds_nothing g.B.Body.same equality c.args.self.now.rows c.args.change.now ascending (whole ∙ h)
