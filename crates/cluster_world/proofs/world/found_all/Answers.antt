-- By the machine that was taken out.
use Rattle.std.proofs.Common.{◌≡◌, ◌++◌, [], ◌∷◌, sym, ap, ◌∙◌, arith, length, append_assoc}
use Rattle.std.specs.Prelude.{slice_get}
use Rattle.std.proofs.lemmas.List.{length-append}
use Rattle.cluster_world.proofs.Founding.{get_seam}
use Rattle.cluster_world.proofs.world.found_all.Goals as goal

pub loop-machine-preserved : goal.loop-machine-preserved
loop-machine-preserved g c =
    let i = c.loop-machine.invariant in
    let n = length-append c.loop-machine.yielded (c.in-Some.machine ∷ []) in
    let k = c.in_ok-found.ensures.count in
    let j = c.in_ok-found.ensures.made_count in
    let p = c.in_ok-found.ensures.list_room in
    let q = c.in_ok-found.ensures.made_room in
    let whole : c.loop-machine.yielded ++ c.in-Some.machine ∷ c.next.new.self.rest.items ≡ c.args.machines.items
    = ap (λ l. c.loop-machine.yielded ++ l) (sym c.in-Some.ensures.steps.0) ∙ i.5 in
    let rest = append_assoc c.loop-machine.yielded (c.in-Some.machine ∷ []) c.next.new.self.rest.items ∙ whole in
    let x = i.1 in
    let y = i.2 in
    let z = i.3 in
    let w = i.4 in (
      c.in_ok-found.ensures.founded,
      omega (arith, n, k, x),
      omega (arith, n, j, y),
      omega (arith, p, z),
      omega (arith, q, w),
      rest,
      λ first h. c.in_ok-found.ensures.follows first
          (h (length c.loop-machine.yielded) c.in-Some.machine
          (ap (λ l. slice_get l (length c.loop-machine.yielded)) (sym whole) ∙ get_seam c.loop-machine.yielded c.in-Some.machine c.next.new.self.rest.items))
          (i.6 first h),
    )
