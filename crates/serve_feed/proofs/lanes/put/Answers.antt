use Rattle.std.proofs.Common.{◌∷◌, []}
use Rattle.serve_feed.proofs.Hearing.{hears_stays}
use Rattle.serve_feed.proofs.lanes.put.Goals as goal

pub returns-then-tell : goal.returns-then-tell
returns-then-tell c =
    record {
      hears = hears_stays (c.args.saying ∷ []) c.args.lane.now c.say.new.self c.tell.new.self c.say.ensures.hears c.tell.ensures.stays;
    }

pub returns-then-is_ok : goal.returns-then-is_ok
returns-then-is_ok c =
    record {
      hears = hears_stays (c.args.saying ∷ []) c.args.lane.now c.say.new.self c.tell.new.self c.say.ensures.hears c.tell.ensures.stays;
    }

pub returns : goal.returns
returns c =
    record {
      hears = hears_stays (c.args.saying ∷ []) c.args.lane.now c.tell.new.self c.announce_sayings.new.self
          (hears_stays (c.args.saying ∷ []) c.args.lane.now c.say.new.self c.tell.new.self c.say.ensures.hears c.tell.ensures.stays)
          c.announce_sayings.ensures.stays;
    }
