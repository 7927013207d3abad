use Rattle.std.proofs.Common.{arith, ◌∙◌, sym, subst}
use Rattle.serve_feed.specs.Hears.{AreLined}
use Rattle.serve_feed.proofs.Hearing.{lined_come}
use Rattle.serve_feed.proofs.lanes.Lanes.come.Goals as goal

pub invariant_of-self-2 : goal.invariant_of-self-2
invariant_of-self-2 c =
    let self = c.args.self.now in
    let given = c.in-Some.ensures.number in
    record {
      lined = lined_come c.reserve.new.self.items c.push-pushed.new.self.items c.new.result _ self.sources.last c.add.new.self.last
          c.push-pushed.ensures.items (omega (arith, given.0, given.1)) (c.new.ensures ∙ given.1)
          (subst (λ l. AreLined l self.sources.last) (sym c.reserve.ensures.items) self.lined);
    }
