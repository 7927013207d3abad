use Rattle.std.proofs.Common.{◌≡◌, ℕ, suc, cond, ◌+◌, Option, List, take, length, ap, sym, ◌∙◌, subst}
use Rattle.std.specs.Option.{option_or}
use Rattle.paxos_packets.specs.Snapshot.{Snapshot, floor_in}
use Rattle.paxos_packets.specs.declared.entry.Entry.{Entry}
use Rattle.paxos_proposer.specs.Moves.{after_moves}
use Rattle.paxos_learner.specs.Hearing.{hear_all}
use Rattle.paxos_learner.specs.Learner.{run_from}
use Rattle.paxos_planning.specs.declared.effects.Effects.{Effects}
use Rattle.paxos_planning.specs.Drafting.{Known}
use Rattle.paxos_planning.specs.Node.{Plan, log_length}
use Rattle.paxos_planning.specs.Front.{IsFront}
use Rattle.paxos_planning.specs.Parts.{proposer_of, learner_of}
use Rattle.paxos_node.specs.declared.outcome.Outcome.{Outcome}
use Rattle.paxos_node.specs.Adopting.{front_behind, Settled}
use Rattle.paxos_node.specs.Applying.{standing_of, count_to_end, has_end}
use Rattle.paxos_node.specs.Outcome.{outcome_with, with_added}
use Rattle.paxos_node.proofs.Ending.{settled}
use Rattle.paxos_node.proofs.settling.ended.Goals as goal

pub returns-clause-settled : goal.returns-clause-settled
returns-clause-settled g c =
    let k : Known g.row.B.Denot = c.args.draft.of in
    let t : Plan g.row.B.Denot = c.args.draft.plan in
    let e : Effects g.row.B.Denot = c.into_effects.result in
    let run : List (Entry g.row.B.Denot) = c.args.run in
    let o : Outcome g.row.B.Denot = outcome_with e c.first_of-applied.result c.until_lost-count.result.1 c.log_behind-log.result
    (front_behind c.args.front c.first_of-applied.result) in
    let run_is : run ≡ run_from (suc (log_length k.state)) (hear_all e.news.items (learner_of k.members k.state)).learner.learned =
    c.requires.run ∙ ap (λ (u : Plan g.row.B.Denot). run_from (suc (log_length k.state)) u.node.learner.learned) c.into_effects.ensures.plan in
    let counted : c.until_lost-count.result.0 ≡ count_to_end k.me k.state.rows.boot (standing_of k.state k.me) run =
    c.until_lost-count.ensures.count
    ∙ (λ i. count_to_end (c.me.ensures i) (c.boot.ensures i) (c.standing_in-standing.ensures i) (c.as_slice.ensures i)) in
    let down : c.until_lost-count.result.1 ≡ has_end k.me k.state.rows.boot (standing_of k.state k.me) run =
    c.until_lost-count.ensures.is_down
    ∙ (λ i. has_end (c.me.ensures i) (c.boot.ensures i) (c.standing_in-standing.ensures i) (c.as_slice.ensures i)) in
    let applied : c.first_of-applied.result ≡ take (count_to_end k.me k.state.rows.boot (standing_of k.state k.me) run) run =
    c.first_of-applied.ensures ∙ ap (λ (n : ℕ). take n run) counted in
    let log : c.log_behind-log.result ≡ cond c.until_lost-count.result.1 0 (log_length k.state + length c.first_of-applied.result) =
    c.log_behind-log.ensures ∙ (λ i. cond c.until_lost-count.result.1 0 (c.applied.ensures.length i + length (c.as_slice-2.ensures i))) in
    let front : IsFront c.args.front (log_length k.state) (after_moves e.moves.items (proposer_of k.me k.members k.state)).proposer.role k.state.pending =
    subst (λ (s : Option Snapshot). IsFront c.args.front (floor_in (option_or s k.state.rows.snapshot) + length k.state.applied)
    (after_moves e.moves.items (proposer_of k.me k.members k.state)).proposer.role k.state.pending) c.into_effects.ensures.plain
    (subst (λ (u : Plan g.row.B.Denot). IsFront c.args.front (log_length u.node) u.node.proposer.role k.state.pending) c.into_effects.ensures.plan
    c.requires.front) in
    let stand : c.front_behind-stand.result ≡ front_behind c.args.front c.first_of-applied.result =
    c.front_behind-stand.ensures ∙ ap (λ (es : List (Entry g.row.B.Denot)). front_behind c.args.front es) c.as_slice-3.ensures in
    let planned : c.with.result ≡ o =
    c.with.ensures ∙ ap (λ (n : ℕ). outcome_with e c.first_of-applied.result c.until_lost-count.result.1 c.log_behind-log.result n) stand in
    let plan : Settled k.me k.members k.state t (with_added k.added o) =
    subst (λ (u : Plan g.row.B.Denot). Settled k.me k.members k.state u (with_added k.added o)) (sym c.into_effects.ensures.plan)
    (settled k t.disagrees e run c.first_of-applied.result c.until_lost-count.result.1 c.log_behind-log.result c.args.front c.requires.agrees c.requires.up
    c.into_effects.ensures.plain c.begins.ensures.floor run_is applied down log c.into_effects.ensures.moves c.begins.ensures.begins c.into_effects.ensures.rises front c.requires.most) in
    subst (λ (p : Outcome g.row.B.Denot). Settled k.me k.members k.state t (with_added k.added p)) (sym planned) plan
