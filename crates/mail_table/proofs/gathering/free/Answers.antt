use Rattle.std.proofs.Common.{◌≡◌, ◌<◌, ◌≤◌, ◌+◌, ◌∙◌, ⊎_elim, subst, arith, false, get_or, set, sym}
use Rattle.std.proofs.lemmas.Bool.{cases_eq}
use Rattle.std.proofs.lemmas.List.{get_or-set_other}
use Rattle.std.specs.Slots.{slots_filled}
use Rattle.mail_table.proofs.Collecting.{set_false}
use Rattle.mail_table.proofs.gathering.free.Goals as goal

pub loop-next-preserved : goal.loop-next-preserved
loop-next-preserved g c =
    let f = c.take.ensures.others in
    let i = c.loop-next.invariant in
    let row = slots_filled c.loop-next.closed.slots in
    let n = c.loop-next.next in (
      (λ k l m. rw f.1 (get_or-set_other row n k false false (λ e. omega (arith, l, e)) ∙ i.0 k (omega (arith, l)) (subst (λ z. k < z)
          f.2 m))),
      (λ k l. rw f.1 (⊎_elim (λ e. subst (λ j. get_or (set row n false) j false ≡ false) (sym e) (set_false row n))
          (λ d. get_or-set_other row n k false false d ∙ i.1 k (omega (arith, l, d))) (cases_eq k n))),
    )
