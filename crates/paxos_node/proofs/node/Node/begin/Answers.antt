use Rattle.std.proofs.Common.{◌≡◌, ℕ, true, [], ◌∷◌, ap, ◌∙◌, rules}
use Rattle.paxos_packets.specs.Snapshot.{floor_in}
use Rattle.paxos_packets.specs.declared.entry.Entry.TheVariants.{Boot}
use Rattle.paxos_packets.specs.declared.rows.Rows.{Rows}
use Rattle.paxos_proposer.specs.Proposer.{round_of, resting}
use Rattle.paxos_proposer.specs.State.{saw}
use Rattle.paxos_learner.specs.Learner.{begun}
use Rattle.paxos_node.proofs.Parts.{seen_first}
use Rattle.paxos_node.proofs.node.Node.begin.Goals as goal

pub returns-clause-state : goal.returns-clause-state
returns-clause-state g c =
    let proposer : c.saw.new.self.state.proposer ≡ resting (round_of c.args.rows.promised) =
    (λ i. (c.saw.ensures.state i).proposer) ∙ (λ i. (saw (c.round_of.ensures i) (c.new-proposer.ensures i)).proposer)
    ∙ (λ i. resting (seen_first (round_of c.args.rows.promised) i)) in
    let floor : c.floor-floor.result ≡ floor_in c.args.rows.snapshot =
    c.floor-floor.ensures ∙ ap (λ (r : Rows g.row.B.Denot). floor_in r.snapshot) c.of-acceptor.ensures.rows in
    let pending : c.push_reserved.new.self.items ≡ Boot c.args.me c.args.rows.boot ∷ [] = search rules in (λ i. record {
      rows = c.of-acceptor.ensures.rows i;
      up = true;
      proposer = proposer i;
      learner = ((c.new.ensures ∙ ap (λ (n : ℕ). begun c.args.members n) floor) i).learner;
      applied = [];
      pending = pending i;
      taken = 0;
    })
