use Rattle.std.proofs.Common.{◌≡◌, ◌++◌, ◌∷◌, [], List, rules, sym, subst, ◌∙◌}
use Rattle.std.specs.Prelude.{option_to_list}
use Rattle.cluster_world.proofs.Lists.{has_left, has_right}
use Rattle.cluster_world.specs.Has.{Has, here}
use Rattle.actor_tests.proofs.posting.for_second.Goals as goal

pub returns-then-packet-eq2 : goal.returns-then-packet-eq2
returns-then-packet-eq2 c =
    let p = c.in_ok-packet.packet in (
      subst (λ l. Has l p) (sym c.pop.ensures.items ∙ c.into_vec-list.ensures)
          (has_left (option_to_list c.pop.result) (subst (λ l. Has l p) (sym c.in_ok-packet.ensures.items) (has_right _ here))),
      search rules,
    )
