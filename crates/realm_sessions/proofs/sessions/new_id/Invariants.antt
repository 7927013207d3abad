use Rattle.std.proofs.Common.{◌≡◌, ◌-◌, suc, length}
use Rattle.realm_sessions.specs.Links.{free_from, is_taken, new_session_id}
use Rattle.realm_sessions.proofs.sessions.new_id.Given as goal

-- the turns that are left find what all of them find
abbrev pub invariant-loop-turn : goal.invariant-loop-turn
invariant-loop-turn l = free_from (suc (length l.held - l._turn)) (is_taken l.held) l.id ≡ new_session_id l.held l.fn.draw
