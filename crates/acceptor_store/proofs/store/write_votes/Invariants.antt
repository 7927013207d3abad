use Rattle.std.proofs.Common.{◌≡◌, true, drop, IsTrue}
use Rattle.std.specs.List.{AllByRecursion}
use Rattle.sqlite.specs.State.{HasCleanDisk, Survives}
use Rattle.sqlite.specs.Held.{state}
use Rattle.store_rows.specs.Numbers.{is_ballot}
use Rattle.acceptor_store.proofs.Keeping.{SoFar}
use Rattle.acceptor_store.specs.Answers.{are_spelled}
use Rattle.acceptor_store.proofs.store.write_votes.Given as goal

abbrev pub invariant-loop-vote : goal.invariant-loop-vote
invariant-loop-vote g l =
    let old = state g.S.Store l.fn.tx.conn.now in
    let now = state g.S.Store l.tx.conn.now in
    (l.tx.conn.ghost_name ≡ l.fn.tx.conn.ghost_name) × Survives old now (λ _. ⊥) × AllByRecursion (λ v. is_ballot v.ballot ≡ true) (drop l.vote-index l.votes)
    × (l.vote-index ≡ 0 → l.tx.conn.now ≡ l.fn.tx.conn.now)
    × (HasCleanDisk now → IsTrue old.in_transaction → SoFar g.C.Coder.reading l.votes (drop l.vote-index l.votes) old now l.vote-index)
    × (are_spelled g.C.Coder.spelling (drop l.vote-index l.votes) ≡ are_spelled g.C.Coder.spelling l.votes)
