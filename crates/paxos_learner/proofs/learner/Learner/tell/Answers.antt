use Rattle.std.proofs.Common.{◌≡◌, true, false, sym, ap, ◌∙◌, refl, rules}
use Rattle.std.proofs.lemmas.Result.{on_ok_weaker, on_err_weaker}
use Rattle.paxos_learner.specs.Learned.{is_closed}
use Rattle.paxos_learner.specs.Learner.{Held, LearnerState, State, learned_at, learn_among, is_other, disagrees, told}
use Rattle.paxos_learner.proofs.Counting.{open_above, state_same, learn_parts, learn_closed, closed_agrees, open_disagrees}
use Rattle.paxos_learner.proofs.learner.Learner.tell.Goals as goal

pub returns-then-is_closed-clause-ok : goal.returns-then-is_closed-clause-ok
returns-then-is_closed-clause-ok g c =
    let s : State g.row.B.Denot = c.args.self.now.state in
    let f : c.is_closed.result ≡ true = search rules in
    ap (λ (x : LearnerState g.row.B.Denot). record { members = s.members; learner = x })
    (learn_closed c.args.slot c.args.entry.now s.learner (sym c.is_closed.ensures ∙ f))

pub returns-then-is_closed-clause-disagree : goal.returns-then-is_closed-clause-disagree
returns-then-is_closed-clause-disagree g c =
    let s : State g.row.B.Denot = c.args.self.now.state in
    let f : c.is_closed.result ≡ true = search rules in
    let no : disagrees g.B.Body.same c.args.slot c.args.entry.now s.learner ≡ false =
    closed_agrees g.B.Body.same c.args.slot c.args.entry.now s.learner (sym c.is_closed.ensures ∙ f) in
    (λ h. absurd (cc), λ h. absurd (let k = sym no ∙ h in cc))

pub learn-requires : goal.learn-requires
learn-requires g c =
    let n : c.is_closed.result ≡ false = search rules in
    open_above c.self.inside.learned.floor c.args.slot
    (ap (λ (s : Held g.row.B.Denot). is_closed s.state.learner.floor c.args.slot) c.self.view_is ∙ sym c.is_closed.ensures ∙ n)

pub returns-clause-ok : goal.returns-clause-ok
returns-clause-ok g c =
    let l : LearnerState g.row.B.Denot =
    record { floor = c.self.inside.learned.floor; heard = c.self.inside.heard.heard; learned = c.self.inside.learned.learned } in
    let n : c.is_closed.result ≡ false = search rules in
    let o : is_closed c.self.inside.learned.floor c.args.slot ≡ false =
    ap (λ (s : Held g.row.B.Denot). is_closed s.state.learner.floor c.args.slot) c.self.view_is ∙ sym c.is_closed.ensures ∙ n in
    on_ok_weaker c.learn.result
    (λ (e : c.learn.new.learned.learned ≡ learn_among c.args.slot c.args.entry.now c.self.inside.learned.learned).
    state_same c.self.inside.members c.learn.new.learned.floor c.self.inside.learned.floor c.self.inside.heard.heard c.self.inside.heard.heard
    c.learn.new.learned.learned _ c.learn.ensures.floor refl e
    ∙ ap (λ (x : LearnerState g.row.B.Denot). record { members = c.self.inside.members; learner = x })
    (sym (learn_parts c.args.slot c.args.entry.now l o))
    ∙ ap (λ (s : Held g.row.B.Denot). told c.args.slot c.args.entry.now s.state) c.self.view_is) c.learn.ensures.ok

pub returns-clause-err : goal.returns-clause-err
returns-clause-err g c =
    on_err_weaker c.learn.result
    (λ (e : c.learn.new.learned.learned ≡ c.self.inside.learned.learned).
    state_same c.self.inside.members c.learn.new.learned.floor c.self.inside.learned.floor c.self.inside.heard.heard c.self.inside.heard.heard
    c.learn.new.learned.learned c.self.inside.learned.learned c.learn.ensures.floor refl e
    ∙ ap (λ (s : Held g.row.B.Denot). s.state) c.self.view_is) c.learn.ensures.err

pub returns-clause-disagree : goal.returns-clause-disagree
returns-clause-disagree g c =
    let l : LearnerState g.row.B.Denot =
    record { floor = c.self.inside.learned.floor; heard = c.self.inside.heard.heard; learned = c.self.inside.learned.learned } in
    let n : c.is_closed.result ≡ false = search rules in
    let o : is_closed c.self.inside.learned.floor c.args.slot ≡ false =
    ap (λ (s : Held g.row.B.Denot). is_closed s.state.learner.floor c.args.slot) c.self.view_is ∙ sym c.is_closed.ensures ∙ n in
    let is : is_other g.B.Body.same c.args.entry.now (learned_at c.args.slot c.self.inside.learned.learned)
    ≡ disagrees g.B.Body.same c.args.slot c.args.entry.now c.args.self.now.state.learner =
    open_disagrees g.B.Body.same c.args.slot c.args.entry.now l o
    ∙ ap (λ (s : Held g.row.B.Denot). disagrees g.B.Body.same c.args.slot c.args.entry.now s.state.learner) c.self.view_is in
    (λ h. sym is ∙ c.learn.ensures.disagree.0 h, λ h. c.learn.ensures.disagree.1 (is ∙ h))
