use Rattle.std.proofs.Common.{◌≡◌, ◌∙◌, [], None, true, refl, rules, ap, sym, subst}
use Rattle.store_rows.specs.declared.rows.Numbers.{Numbers}
use Rattle.acceptor_store.specs.Store.{Stores}
use Rattle.acceptor_store.specs.Answers.{are_spelled}
use Rattle.acceptor_store.proofs.Changing.{written_none, follows_same}
use Rattle.acceptor_store.proofs.calls.commit_over.Goals as goal

pub returns-then-is_nothing-clause-ok : goal.returns-then-is_nothing-clause-ok
returns-then-is_nothing-clause-ok g c clean rows left same follows placed trees may =
    let is : (c.args.numbers.now.boot ≡ c.args.known.now.boot) × (c.args.numbers.now.promised ≡ c.args.known.now.promised) = search rules in
    let none : (c.args.snapshot.now ≡ None) × (c.args.votes.now ≡ []) = search rules in
    subst (Stores g.C.Coder.reading trees)
    (sym (written_none rows c.args.numbers.now c.args.snapshot.now c.args.votes.now (is.0 ∙ ap (λ (n : Numbers). n.boot) same)
    (is.1 ∙ ap (λ (n : Numbers). n.promised) same) none.0 none.1))
    (left trees may)

pub returns-clause-ok : goal.returns-clause-ok
returns-clause-ok g c clean rows left same follows placed =
    let is : (c.args.numbers.now.boot ≡ c.args.known.now.boot) × (c.args.numbers.now.promised ≡ c.args.known.now.promised) = search rules in
    c.commit_rows-2.ensures.ok clean rows left (follows_same rows c.args.known.now c.args.numbers.now c.args.snapshot.now follows same is) placed

pub returns-clause-found : goal.returns-clause-found
returns-clause-found g c clean rows left same follows placed trees may =
    let is : (c.args.numbers.now.boot ≡ c.args.known.now.boot) × (c.args.numbers.now.promised ≡ c.args.known.now.promised) = search rules in
    c.commit_rows-2.ensures.found clean rows left (follows_same rows c.args.known.now c.args.numbers.now c.args.snapshot.now follows same is) placed trees may

pub returns-then-is_nothing-clause-spelled : goal.returns-then-is_nothing-clause-spelled
returns-then-is_nothing-clause-spelled g c =
    let none : (c.args.snapshot.now ≡ None) × (c.args.votes.now ≡ []) = search rules in
    subst (λ vs. are_spelled g.C.Coder.spelling vs ≡ true) (sym none.1) refl
