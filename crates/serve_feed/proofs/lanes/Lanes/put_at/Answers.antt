use Rattle.std.proofs.Common.{arith, refl, sym}
use Rattle.serve_feed.proofs.Hearing.{hear_at, lined_set}
use Rattle.serve_feed.proofs.lanes.Lanes.put_at.Goals as goal

pub invariant_of-self : goal.invariant_of-self
invariant_of-self c =
    let here = c.in-Some.ensures.item.3 in
    let self = c.args.self.now in
    record {
      lined = lined_set self.lanes.items c.args.place self.sources.last c.in-Some.lane.now c.put.new.lane here.0 (λ d. sym (here.1 d))
          c.put.ensures.hears.number self.lined;
    }

pub returns-in-Some : goal.returns-in-Some
returns-in-Some c =
    let here = c.in-Some.ensures.item.3 in
    let self = c.args.self.now in
    record {
      sources = refl;
      hears = λ number is.
          hear_at self.lanes.items number c.args.place self.sources.last c.args.saying c.in-Some.lane.now c.put.new.lane self.lined is
          (λ d. sym (here.1 d)) c.put.ensures.hears;
    }

pub returns-in-None : goal.returns-in-None
returns-in-None c =
    record { sources = refl; hears = λ number is. absurd (omega (arith, c.in-None.ensures.item.3, is.within)) }
