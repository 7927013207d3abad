use Rattle.std.proofs.Common.{sym}
use Rattle.serve_feed.proofs.Hearing.{hear_same, hear_stays}
use Rattle.serve_feed.proofs.lanes.announce.Goals as goal

pub returns-in_default : goal.returns-in_default
returns-in_default c = hear_same c.args.lanes.now.items

pub returns-in_default-get_mut : goal.returns-in_default-get_mut
returns-in_default-get_mut c = hear_same c.args.lanes.now.items

pub returns : goal.returns
returns c =
    let here = c.in-Some-get_mut.ensures.item.3 in
    hear_stays c.args.lanes.now.items c.in-Some.place c.in-Some-get_mut.lane.now c.announce_sayings.new.self here.0 (λ d. sym (here.1 d))
    c.announce_sayings.ensures.stays
