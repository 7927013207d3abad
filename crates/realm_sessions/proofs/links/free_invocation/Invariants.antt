use Rattle.std.proofs.Common.{◌≡◌, suc, length, drop}
use Rattle.realm_sessions.specs.Links.{free_from, has_number, free_invocation}
use Rattle.realm_sessions.proofs.links.free_invocation.Given as goal

-- the turns that are left find what all of them find
abbrev pub invariant-loop-other : goal.invariant-loop-other
invariant-loop-other l =
    free_from (suc (length (drop l._other-index l.taken))) (has_number l.taken) l.id ≡ free_invocation l.taken l.fn.last
