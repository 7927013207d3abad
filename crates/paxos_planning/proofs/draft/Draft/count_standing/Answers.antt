use Rattle.std.proofs.Common.{◌≡◌, ℕ, suc, true, ◌+◌, List, take, sym, ◌∙◌, subst, arith}
use Rattle.paxos_packets.specs.declared.entry.Entry.{Entry}
use Rattle.paxos_planning.specs.Node.{log_length}
use Rattle.paxos_planning.specs.Drafting.{Drafted}
use Rattle.paxos_planning.specs.Front.{AllStand}
use Rattle.paxos_planning.specs.Proposals.{stands}
use Rattle.paxos_planning.proofs.Standing.{stands_next}
use Rattle.paxos_planning.proofs.draft.Draft.count_standing.Goals as goal

pub loop-entry-preserved : goal.loop-entry-preserved
loop-entry-preserved g c =
    let d : Drafted g.row.B.Denot = c.args.self.now in
    let es : List (Entry g.row.B.Denot) = c.args.entries.now in
    let i : ℕ = c.loop-entry.entry-index in
    let so_far : c.loop-entry.count ≡ i = c.loop-entry.invariant.1 in
    let one : suc i ≡ c.loop-entry.count + 1 = omega arith in
    let stood : AllStand g.B.Body.same (log_length d.plan.node) d.plan.node.proposer.role (take i es) =
    subst (λ (n : ℕ). AllStand g.B.Body.same (log_length d.plan.node) d.plan.node.proposer.role (take n es)) so_far c.loop-entry.invariant.0 in
    let now : stands g.B.Body.same (log_length d.plan.node) d.plan.node.proposer.role c.entry-item.result ≡ true =
    sym c.stands.ensures ∙ c.if-not-stands.false in
    let all : AllStand g.B.Body.same (log_length d.plan.node) d.plan.node.proposer.role (take (suc i) es) =
    stands_next g.B.Body.same (log_length d.plan.node) d.plan.node.proposer.role i es c.entry-item.result c.loop-entry-test.true c.entry-item.is stood now in (
      subst (λ (n : ℕ). AllStand g.B.Body.same (log_length d.plan.node) d.plan.node.proposer.role (take n es)) one all,
      omega arith,
    )
