use Rattle.std.proofs.Common.{◌≡◌, drop}
use Rattle.realm_sessions.specs.Apart.{put_all}
use Rattle.realm_sessions.specs.Restoring.{is_misnumbered, clash}
use Rattle.realm_sessions.proofs.restoring.put_links.Given as goal

-- the rest, after what is held, gives what all gives
abbrev pub invariant-loop-link : goal.invariant-loop-link
invariant-loop-link l =
    put_all is_misnumbered clash l.held (drop l.link-index l.links) ≡ put_all is_misnumbered clash l.initial.held l.links
