use Rattle.std.proofs.Common.{◌≡◌, ℕ, ◌+◌, List, ◌++◌, length, ap, sym, ◌∙◌, subst, rules}
use Rattle.std.specs.List.{flat_map}
use Rattle.paxos_packets.specs.Members.{others}
use Rattle.paxos_packets.specs.declared.packet.Packet.{Packet}
use Rattle.paxos_packets.specs.declared.vote.Vote.{Vote}
use Rattle.paxos_packets.specs.Snapshot.{floor_in}
use Rattle.paxos_learner.specs.Learned.{Begins}
use Rattle.paxos_proposer.specs.Proposals.{behind}
use Rattle.paxos_proposer.specs.Proposing.{proposals_of}
use Rattle.paxos_planning.specs.Node.{NodeState, log_length}
use Rattle.paxos_planning.specs.Parts.{learner_of}
use Rattle.paxos_planning.specs.Drafting.{asked_again}
use Rattle.paxos_planning.specs.Ticking.{accepts_again}
use Rattle.paxos_planning.proofs.Again.{passes_over}
use Rattle.paxos_planning.proofs.ticking.put_accepts_again.Goals as goal

pub returns : goal.returns
returns g c =
    let me : ℕ = c.args.node.now.me in
    let members : ℕ = c.args.node.now.members in
    let x : NodeState g.row.B.Denot = c.args.node.now.state in
    let proposed : List (Vote g.row.B.Denot) = proposals_of x.proposer.role in
    let learned : c.learner.result.now.state ≡ learner_of members x = c.learner.ensures in
    let votes : c.proposed_after-votes.result.now ≡ behind (log_length x) proposed =
    c.proposed_after-votes.ensures.behind ∙ (λ i. behind (c.applied.ensures.length i) (proposals_of (c.proposer.ensures i).proposer.role)) in
    let own : c.me-me.result ≡ me = c.me-me.ensures in
    let rest : c.as_slice.result.now ≡ others me members = search rules in
    let asked : List (Packet g.row.B.Denot) = flat_map (asked_again c.me-me.result c.as_slice.result.now c.learner.result.now.state.learner)
    c.proposed_after-votes.result.now in
    let put : c.put_accepts.new.packets.items ≡ c.args.packets.now.items ++ asked = c.in_ok-put_accepts.ensures.ok in
    let same : asked ≡ flat_map (asked_again me (others me members) x.learner) (behind (log_length x) proposed) =
    (λ i. flat_map (asked_again (own i) (rest i) (learned i).learner) (votes i)) in
    let floor : x.learner.floor ≡ floor_in x.rows.snapshot = c.begins.ensures.floor in
    let begins : Begins x.learner.floor x.applied x.learner.learned =
    subst (λ (f : ℕ). Begins f x.applied x.learner.learned) (sym floor) c.begins.ensures.begins in
    let all : flat_map (asked_again me (others me members) x.learner) (behind (log_length x) proposed) ≡ accepts_again members me x.learner proposed =
    passes_over me members (log_length x) x.applied x.learner proposed (ap (λ (f : ℕ). f + length x.applied) (sym floor)) begins in
    let whole : asked ≡ accepts_again members me x.learner proposed = same ∙ all in
    record { ok = put ∙ ap (λ (ps : List (Packet g.row.B.Denot)). c.args.packets.now.items ++ ps) whole }
