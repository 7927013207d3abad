use Rattle.serve_feed.specs.Hears.{nothing}
use Rattle.serve_feed.proofs.Hearing.{hear_same, hear_quiet}
use Rattle.serve_feed.proofs.lanes.ignore_all.Goals as goal

pub loop-place-init : goal.loop-place-init
loop-place-init c = hear_same c.args.lanes.now.items

pub loop-place-preserved : goal.loop-place-preserved
loop-place-preserved c =
    hear_quiet nothing c.args.lanes.now.items c.loop-place.lanes.items c.ignore.new.lanes.items c.loop-place.invariant c.ignore.ensures
