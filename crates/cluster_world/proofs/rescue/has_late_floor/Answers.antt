use Rattle.std.proofs.Common.{ap, ◌∙◌}
use Rattle.std.specs.Prelude.{nat_lt}
use Rattle.cluster_world.specs.Rescue.{last_rescue_slot}
use Rattle.cluster_world.proofs.rescue.has_late_floor.Goals as goal

pub returns : goal.returns
unfolding last_rescue_slot
returns g c = ap (λ f. nat_lt 1099511623679 f) (c.get.ensures.value ∙ c.floor.ensures)
