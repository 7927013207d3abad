use Rattle.std.proofs.Common.{◌∙◌}
use Rattle.realm_groups.specs.Groups.{shown}
use Rattle.realm_groups.proofs.Gathering.{gathered_next}
use Rattle.realm_groups.proofs.matching.gathered.Goals as goal

pub loop-id-preserved : goal.loop-id-preserved
loop-id-preserved g c =
    gathered_next c.args.rows.now.entries (shown c.loop-id.found.entries) (shown c.add_found.new.found.entries) c.args.ids.now
    c.loop-id.id-index _ c.loop-id-test.true c.in_ok-add_found.ensures.ok ∙ c.loop-id.invariant
