-- One member was handed nothing more; the one after it is next.
use Rattle.std.proofs.Common.{◌++◌, ◌∙◌, sym, ap, arith, rules}
use Rattle.cluster_world.specs.Told.{tell_members}
use Rattle.cluster_world.proofs.handings.next_in.Goals as goal

pub loop-turn-preserved : goal.loop-turn-preserved
loop-turn-preserved g c =
    let i = c.loop-turn.invariant in
    let parts = c.in_ok-first.ensures.cases in
    let fewer = parts.1 in
    let count = i.1 in (
      ap (λ l. l ++ tell_members c.in_ok-first.behind.now) c.handed.ensures.are
          ∙ (ap (λ l. tell_members l) (sym parts.0)
          ∙ (ap (λ l. l ++ tell_members c.loop-turn.left.now) (sym c.in_default.ensures.0) ∙ i.0)),
      omega (arith, fewer, count),
    )

pub loop-turn-init : goal.loop-turn-init
loop-turn-init g c = search rules
