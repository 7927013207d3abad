use Rattle.std.proofs.Common.{◌≡◌, [], drop, map}
use Rattle.realm_groups.specs.Groups.{gathered, shown}
use Rattle.realm_groups.proofs.matching.gathered.Given as goal

-- what was found, with the rest, is what the whole gives
abbrev pub invariant-loop-id : goal.invariant-loop-id
invariant-loop-id g l =
    gathered l.rows.entries (shown l.found.entries) (map (λ id. id.now) (drop l.id-index l.ids))
    ≡ gathered l.rows.entries [] (map (λ id. id.now) l.ids)
