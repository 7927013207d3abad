use Rattle.std.proofs.Common.{◌≡◌, ℕ, Bool, true, false, List, ap, sym, ◌∙◌, rules}
use Rattle.paxos_packets.specs.Members.{is_majority, is_in, set_with}
use Rattle.paxos_packets.specs.declared.vote.Vote.{Vote}
use Rattle.paxos_learner.specs.Tallies.{place_of, nodes_heard}
use Rattle.paxos_learner.specs.Learner.{LearnerState}
use Rattle.paxos_learner.proofs.Counting.{few_agree, most_disagree}
use Rattle.paxos_learner.proofs.learner.Learner.vote_disagrees.Goals as goal

pub returns-then-not-has_majority : goal.returns-then-not-has_majority
returns-then-not-has_majority g c =
    let v : Vote g.row.B.Denot = c.args.vote.now in
    let l : LearnerState g.row.B.Denot = c.args.self.now.state.learner in
    let members : ℕ = c.args.self.now.state.members in
    let f : c.has_majority.result ≡ false = search rules in
    let set : c.with-nodes.result ≡ set_with (nodes_heard (place_of v) l.heard) c.args.node =
    c.with-nodes.ensures ∙ ap (λ (s : List Bool). set_with s c.args.node) c.nodes.ensures in
    sym (few_agree g.B.Body.same members c.args.node v l
    (ap (λ (s : List Bool). is_majority members (is_in s)) (sym set) ∙ sym c.has_majority.ensures ∙ f))

pub returns : goal.returns
returns g c =
    let v : Vote g.row.B.Denot = c.args.vote.now in
    let l : LearnerState g.row.B.Denot = c.args.self.now.state.learner in
    let members : ℕ = c.args.self.now.state.members in
    let f : c.has_majority.result ≡ true = search rules in
    let set : c.with-nodes.result ≡ set_with (nodes_heard (place_of v) l.heard) c.args.node =
    c.with-nodes.ensures ∙ ap (λ (s : List Bool). set_with s c.args.node) c.nodes.ensures in
    c.disagrees.ensures
    ∙ most_disagree g.B.Body.same members c.args.node v l
    (ap (λ (s : List Bool). is_majority members (is_in s)) (sym set) ∙ sym c.has_majority.ensures ∙ f)
