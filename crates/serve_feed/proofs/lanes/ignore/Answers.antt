use Rattle.std.proofs.Common.{sym}
use Rattle.serve_feed.proofs.Hearing.{hear_same, hear_stays}
use Rattle.serve_feed.proofs.lanes.ignore.Goals as goal

pub returns-in_default : goal.returns-in_default
returns-in_default c = hear_same c.args.lanes.now.items

pub returns : goal.returns
returns c =
    let here = c.in-Some.ensures.item.3 in
    hear_stays c.args.lanes.now.items c.args.place c.in-Some.lane.now c.ignore_slow.new.self here.0 (λ d. sym (here.1 d))
    c.ignore_slow.ensures.stays
