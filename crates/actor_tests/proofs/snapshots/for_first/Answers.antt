use Rattle.std.proofs.Common.{◌≡◌, ◌++◌, ◌∷◌, [], List, rules, sym, subst, ◌∙◌}
use Rattle.cluster_world.proofs.Lists.{has_right}
use Rattle.cluster_world.specs.Has.{Has, here}
use Rattle.actor_tests.proofs.snapshots.for_first.Goals as goal

pub returns-then-packet-eq1 : goal.returns-then-packet-eq1
returns-then-packet-eq1 c =
    let p = c.in_ok-packet.packet in (
      subst (λ l. Has l p) (sym c.in_ok-packet.ensures.items ∙ c.into_vec-list.ensures) (has_right _ here),
      search rules,
    )
