use Rattle.std.proofs.Common.{◌≡◌, drop}
use Rattle.realm_registrations.specs.Restoring.{put_registrations}
use Rattle.realm_registrations.proofs.restoring.put_registrations.Given as goal

-- the rest, after those that are there, gives what all give
abbrev pub invariant-loop-parts : goal.invariant-loop-parts
invariant-loop-parts l =
    put_registrations l.groups (drop l.parts-index l.list) ≡ put_registrations l.initial.groups l.list
