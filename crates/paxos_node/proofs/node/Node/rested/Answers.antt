use Rattle.std.proofs.Common.{◌≡◌, ◌≤◌, ◌<◌, ◌^◌, ℕ, cond, ◌+◌, List, [], ◌∷◌, take, length, ap, sym, ◌∙◌, subst, arith}
use Rattle.std.specs.Prelude.{Some}
use Rattle.paxos_packets.specs.declared.entry.Entry.{Entry}
use Rattle.paxos_proposer.specs.declared.moves.Move.TheVariants.{Raised}
use Rattle.paxos_learner.specs.Learned.{Rises}
use Rattle.paxos_learner.specs.Learner as learning
use Rattle.paxos_planning.specs.Node.{NodeState}
use Rattle.paxos_planning.specs.Plan.{begun}
use Rattle.paxos_node.specs.declared.outcome.Outcome.{Outcome}
use Rattle.paxos_node.specs.Adopting.{Settled}
use Rattle.paxos_node.specs.Applying.{stands_at, count_to_end, has_end}
use Rattle.paxos_node.specs.Outcome.{resting_with}
use Rattle.paxos_node.specs.Snapshots.{rest_on}
use Rattle.paxos_node.proofs.Resting.{rests}
use Rattle.paxos_node.proofs.node.Node.rested.Goals as goal

pub returns-clause-settled : goal.returns-clause-settled
returns-clause-settled g c =
    let me : ℕ = c.args.self.now.me in
    let members : ℕ = c.args.self.now.members in
    let x : NodeState g.row.B.Denot = c.args.self.now.state in
    let run : List (Entry g.row.B.Denot) = c.args.run in
    let floor : c.get-floor.result ≡ c.args.snapshot.floor = c.get-floor.ensures.value ∙ c.floor.ensures in
    let within : c.args.snapshot.floor < 2 ^ 40 = subst (λ (n : ℕ). n < 2 ^ 40) floor c.get-floor.ensures.most in
    let counted : c.until_lost-count.result.0 ≡ count_to_end me x.rows.boot (stands_at (Some c.args.snapshot) me) run =
    c.until_lost-count.ensures.count
    ∙ (λ i. count_to_end (c.me-2.ensures i) (c.boot.ensures i)
    ((c.standing_at-standing.ensures ∙ ap (λ (n : ℕ). stands_at (Some c.args.snapshot) n) c.me.ensures) i) (c.as_slice.ensures i)) in
    let down : c.until_lost-count.result.1 ≡ has_end me x.rows.boot (stands_at (Some c.args.snapshot) me) run =
    c.until_lost-count.ensures.is_down
    ∙ (λ i. has_end (c.me-2.ensures i) (c.boot.ensures i)
    ((c.standing_at-standing.ensures ∙ ap (λ (n : ℕ). stands_at (Some c.args.snapshot) n) c.me.ensures) i) (c.as_slice.ensures i)) in
    let applied : c.first_of-applied.result ≡ take (count_to_end me x.rows.boot (stands_at (Some c.args.snapshot) me) run) run =
    c.first_of-applied.ensures ∙ ap (λ (n : ℕ). take n run) counted in
    let log : c.log_behind-log.result ≡ cond c.until_lost-count.result.1 0 (c.args.snapshot.floor + length c.first_of-applied.result) =
    c.log_behind-log.ensures ∙ (λ i. cond c.until_lost-count.result.1 0 (floor i + length (c.as_slice-2.ensures i))) in
    let low : x.learner.floor ≤ c.args.snapshot.floor =
    (let at = c.begins.ensures.floor in let more = c.requires.more in omega arith) in
    let rises : Rises x.learner.floor x.learner.learned =
    subst (λ (s : learning.State g.row.B.Denot). Rises s.learner.floor s.learner.learned) c.learner.ensures c.ascends.ensures in
    let planned : c.resting.result ≡ resting_with c.args.snapshot c.args.over (Raised c.args.snapshot.floor ∷ []) [] c.first_of-applied.result
    c.until_lost-count.result.1 c.log_behind-log.result =
    c.resting.ensures
    ∙ (λ i. resting_with c.args.snapshot c.args.over (c.requires.moves i) (c.requires.news i) c.first_of-applied.result c.until_lost-count.result.1
    c.log_behind-log.result) in
    subst (λ (o : Outcome g.row.B.Denot). Settled me members x (rest_on c.args.over c.args.snapshot (begun x)) o) (sym planned)
    (rests me members x c.args.snapshot c.args.over run c.first_of-applied.result c.until_lost-count.result.1 c.log_behind-log.result c.requires.up low within
    rises c.requires.run applied down log)
