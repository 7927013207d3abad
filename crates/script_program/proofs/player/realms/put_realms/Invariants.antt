use Rattle.std.proofs.Common.{◌≡◌, ◌≤◌}
use Rattle.std.specs.Prelude.{vec_len, vec_capacity, All}
use Rattle.script_program.specs.Player.{first_realm}
use Rattle.script_program.proofs.player.realms.put_realms.Given as goal

abbrev pub invariant-loop-member : goal.invariant-loop-member
invariant-loop-member l =
    (vec_len l.realms ≡ l._member) × (l.count ≤ vec_capacity l.realms)
    × All (λ realm. realm ≡ first_realm (record { name = l.name; limits = l.limits })) l.realms.items
