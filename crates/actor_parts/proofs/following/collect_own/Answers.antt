use Rattle.std.proofs.Common.{◌≡◌, ◌∷◌, rules}
use Rattle.std.specs.Vec.Iter.{into_iter_items}
use Rattle.actor_parts.proofs.Sayings.{own_more}
use Rattle.actor_parts.proofs.following.collect_own.Goals as goal

pub loop-more-preserved : goal.loop-more-preserved
loop-more-preserved g c =
    let rest = into_iter_items c.next.new.self in
    let step : into_iter_items c.loop-more.more-iterator ≡ c.in-Some.more ∷ rest = search rules in
    own_more g.M.Machine.steps.to c.args.node c.args.boot c.loop-more.says.items _ _ rest c.in-Some.more _ c.in_ok-retain_own.ensures step
    c.loop-more.invariant
