use Rattle.std.proofs.Common.{◌≡◌, drop}
use Rattle.realm_groups.specs.Restoring.{joined_at}
use Rattle.realm_groups.proofs.restoring.join_all.Given as goal

-- the rest, after those that joined, gives what all give
abbrev pub invariant-loop-session : goal.invariant-loop-session
invariant-loop-session g l =
    joined_at g.G.Group.id_of g.G.Group.sessions_of g.G.Group.with l.groups l.id (drop l.session-index l.sessions)
    ≡ joined_at g.G.Group.id_of g.G.Group.sessions_of g.G.Group.with l.initial.groups l.id l.sessions
