use Rattle.std.proofs.Common.{◌≡◌, true, false, None, Some, List, [], ◌∷◌, ◌++◌, suc, ◌∙◌, ap, sym, refl, option_copied}
use Rattle.paxos_learner.specs.declared.learned.LearnedEntry.{LearnedEntry}
use Rattle.paxos_learner.specs.Hearing.{after}
use Rattle.paxos_learner.specs.Learner.{learned_at, learned_within}
use Rattle.paxos_learner.proofs.Rising.{none_outside}
use Rattle.paxos_learner.proofs.Running.{within_same, within_some}
use Rattle.paxos_learner.proofs.hearing.tell_one.Goals as goal

pub returns-in_default-clause-ok : goal.returns-in_default-clause-ok
returns-in_default-clause-ok g c =
    within_same c.args.number c.args.told.now.items c.args.told.now.items (after c.args.hearing.now).learner.learned refl
    (sym (none_outside (after c.args.hearing.now).learner.floor c.args.number (after c.args.hearing.now).learner.learned c.ascends.ensures
    (λ h. absurd (let k : false ≡ true = c.in_default.ensures.valid.1 h in cc))))

pub returns-in_default-learned-clause-ok : goal.returns-in_default-learned-clause-ok
returns-in_default-learned-clause-ok g c =
    let none : learned_at c.in-Some.slot (after c.args.hearing.now).learner.learned ≡ None =
    sym c.learned.ensures ∙ ap option_copied c.in_default-learned.is in
    within_same c.args.number c.args.told.now.items c.args.told.now.items (after c.args.hearing.now).learner.learned refl
    (ap (λ s. learned_at s (after c.args.hearing.now).learner.learned) (sym c.in-Some.ensures.value) ∙ none)

pub returns-clause-ok : goal.returns-clause-ok
returns-clause-ok g c =
    let ls : List (LearnedEntry g.row.B.Denot) = (after c.args.hearing.now).learner.learned in
    let some : learned_at c.args.number ls ≡ Some c.in-Some-learned.entry.now =
    ap (λ s. learned_at s ls) (sym c.in-Some.ensures.value) ∙ sym c.in-Some-learned.ensures in
    let put : record { slot = c.in-Some.slot; entry = c.in-Ok.entry } ∷ [] ≡ learned_within c.args.number (suc c.args.number) ls =
    (λ i. record { slot = c.in-Some.ensures.value i; entry = c.in-Ok.ensures i } ∷ [])
    ∙ sym (within_some (after c.args.hearing.now).learner.floor c.args.number ls c.in-Some-learned.entry.now c.ascends.ensures some) in
    c.in-Ok-push.ensures.items ∙ ap (λ (es : List (LearnedEntry g.row.B.Denot)). c.args.told.now.items ++ es) put
