use Rattle.std.proofs.Common.{◌≡◌, ℕ, ◌+◌, ◌-◌, ◌<◌, suc, Bool, true, length, Some, sym, ap, ◌∙◌, arith}
use Rattle.std.proofs.lemmas.Bool.{cond-true}
use Rattle.wamp_ids.specs.Id.{id_after}
use Rattle.realm_sessions.specs.Links.{free_from, is_taken}
use Rattle.realm_sessions.proofs.sessions.new_id.Goals as goal

-- if the id is used, one turn less finds the same from the next
turned : (used : ℕ → Bool) (most turn id : ℕ) → turn < most → used id ≡ true
    → free_from (suc (most - (turn + 1))) used (id_after id) ≡ free_from (suc (most - turn)) used id
turned used most turn id within taken =
    let left : suc (most - (turn + 1)) ≡ most - turn = omega (arith, within) in
    sym (cond-true (used id) (free_from (suc (most - (turn + 1))) used (id_after id)) (Some id) taken)
    ∙ ap (λ (n : ℕ). free_from (suc n) used id) left

pub loop-turn-preserved : goal.loop-turn-preserved
loop-turn-preserved c =
    let links = c.args.held.now in
    let within = rw c.len-turn-end.ensures at c.loop-turn-test.true in
    ap (free_from (suc (length links - (c.loop-turn._turn + 1))) (is_taken links)) c.next-id.ensures
    ∙ turned (is_taken links) (length links) c.loop-turn._turn c.loop-turn.id within (sym c.is_taken.ensures ∙ c.if-not-is_taken.false)
    ∙ c.loop-turn.invariant
