use Rattle.std.proofs.Common.{◌≡◌, ◌+◌, ◌≤◌, vec_len, vec_capacity, ap, ◌∙◌, subst, arith, rules}
use Rattle.paxos_learner.specs.Hearing.{HasRoomFor}
use Rattle.paxos_learner.specs.Learner as learning
use Rattle.paxos_node.specs.Held.{additions}
use Rattle.paxos_node.proofs.Parts.{held_is}
use Rattle.paxos_node.proofs.Adoption.{one_added}
use Rattle.paxos_node.proofs.node.Node.make_room.Goals as goal

pub returns-clause-ok : goal.returns-clause-ok
returns-clause-ok g c =
    let members : c.make_room_in.new.learner.state.members ≡ c.self.inside.members =
    ap (λ (s : learning.State g.row.B.Denot). s.members) c.make_room_in.ensures.heard ∙ c.self.invariant.2 in
    let room : vec_len c.make_room_in.new.pending + 1 ≤ vec_capacity c.make_room_in.new.pending = c.in-Ok.ensures.pending in
    let one : additions c.args.outcome.now.moves.added ≤ 1 = one_added c.args.outcome.now.moves.added in
    record {
      votes = c.in-Ok.ensures.votes;
      proposer = c.in-Ok.ensures.proposer;
      learner =
          subst (λ (l : learning.Held g.row.B.Denot). HasRoomFor c.args.outcome.now.moves.news l)
          (held_is c.make_room_in.new.learner c.self.inside.members members) c.in-Ok.ensures.learner;
      pending = omega arith;
      stands = search rules;
    }
