use Rattle.serve_feed.specs.Hears.{nothing}
use Rattle.serve_feed.proofs.Hearing.{hear_same, hear_quiet}
use Rattle.serve_feed.proofs.lanes.announce_all.Goals as goal

pub loop-number-init : goal.loop-number-init
loop-number-init c = hear_same c.args.lanes.now.items

pub loop-number-preserved : goal.loop-number-preserved
loop-number-preserved c =
    hear_quiet nothing c.args.lanes.now.items c.loop-number.lanes.items c.announce.new.lanes.items c.loop-number.invariant c.announce.ensures
