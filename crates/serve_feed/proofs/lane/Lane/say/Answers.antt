use Rattle.std.proofs.Common.{◌∷◌, [], ◌∙◌, refl}
use Rattle.serve_feed.proofs.Hearing.{hears_ended, hears_put, hears_refused, ring_then}
use Rattle.serve_feed.proofs.lane.Lane.say.Goals as goal

pub returns-then-self : goal.returns-then-self
returns-then-self c = record { hears = hears_ended (c.args.saying ∷ []) c.args.self.now c.if-self.true }

pub returns-then-not-push : goal.returns-then-not-push
returns-then-not-push c =
    let full = c.if-not-push.ensures in
    record {
      hears = hears_refused c.args.saying c.args.self.now _ c.end.new.self refl full.ring c.if-self.false full.puts.0 full.puts.1
          c.end.ensures.ends;
    }

pub returns-then-not-put : goal.returns-then-not-put
returns-then-not-put c =
    let put = c.if-not-push.ensures in
    record { hears = hears_put c.args.saying c.args.self.now _ refl put.ring c.if-self.false c.if-self.false put.puts }

pub returns-then-judge : goal.returns-then-judge
returns-then-judge c =
    let put = c.if-not-push.ensures in
    let looked = c.slots-room.ensures.looked in
    let ring = ring_then c.args.self.now.sayings c.push.new.ring c.slots-room.new.self put.ring looked.0 in
    record { hears = hears_put c.args.saying c.args.self.now _ refl ring c.if-self.false c.if-self.false (looked.1 ∙ put.puts) }

pub returns-else-judge : goal.returns-else-judge
returns-else-judge c =
    let put = c.if-not-push.ensures in
    let looked = c.slots-room.ensures.looked in
    let ring = ring_then c.args.self.now.sayings c.push.new.ring c.slots-room.new.self put.ring looked.0 in
    record { hears = hears_put c.args.saying c.args.self.now _ refl ring c.if-self.false c.if-self.false (looked.1 ∙ put.puts) }
