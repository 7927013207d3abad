-- One more member yields what it handed out.
use Rattle.std.proofs.Common.{◌≡◌, refl, sym, ap, ◌∙◌, subst, arith, ⊎_elim, length, Some, None}
use Rattle.std.specs.Prelude.{slice_get}
use Rattle.std.proofs.lemmas.Bool.{cases_lt}
use Rattle.std.proofs.lemmas.Option.{slice_get_past, slice_get_read}
use Rattle.replica_follower.specs.Handed.{tellings, TellAll}
use Rattle.cluster_world.specs.Members.{MemberState}
use Rattle.cluster_world.proofs.Replacing.{some_same}
use Rattle.cluster_world.proofs.handings.all_tell.Goals as goal

pub loop-place-preserved : goal.loop-place-preserved
loop-place-preserved g c = λ i s l at.
    let list = c.args.members.now in
    let told = subst (λ t. TellAll c.index-members-place.result.machine.told t) c.handed.ensures.are c.handed.ensures.all in
    let read = slice_get_read list (length list) c.loop-place.place c.index-members-place.result refl c.loop-place-test.true
    c.index-members-place.is in
    ⊎_elim (λ low. c.loop-place.invariant i s low at)
    (λ high. let e : c.loop-place.place ≡ i = omega (arith, l, high) in
    subst (λ (z : MemberState _ _ _). TellAll z.machine.told (tellings z.machine.told))
    (some_same (sym read ∙ (ap (λ k. slice_get list k) e ∙ at))) told)
    (cases_lt i c.loop-place.place)

pub returns : goal.returns
returns g c = λ i s at.
    let list = c.args.members.now in
    let over = c.loop-place-test.false in
    ⊎_elim (λ low. c.loop-place.invariant i s low at)
    (λ high. absurd (none (sym (slice_get_past list i (omega (arith, over, high))) ∙ at)))
    (cases_lt i c.loop-place.place)
  where
    none : {A : Type 0} {x : A} → None ≡ Some x → ⊥
    none e = cc
