use Rattle.std.proofs.Common.{◌≡◌, ◌≤◌, List, Bool, true, false, Err, sym, ap, ◌∙◌, refl, rules, arith}
use Rattle.std.proofs.lemmas.Result.{on_ok_weaker}
use Rattle.paxos_packets.specs.Members.{is_majority, is_in, set_with}
use Rattle.paxos_packets.specs.declared.vote.Vote.{Vote}
use Rattle.paxos_learner.specs.declared.tallies.SlotBallot.{SlotBallot}
use Rattle.paxos_learner.specs.Tallies.{Heard, hear, nodes_heard}
use Rattle.paxos_learner.specs.Learned.{is_closed}
use Rattle.paxos_learner.specs.Learner.{Held, LearnerState, State, learned_at, is_other, voted, vote_disagrees}
use Rattle.paxos_learner.proofs.Counting.{few_voted, few_agree, most_voted, most_agree, heard_before, open_above, state_same, closed_voted, closed_votes_agree}
use Rattle.paxos_learner.proofs.Drafting.{on_err}
use Rattle.paxos_learner.proofs.learner.Learner.vote.Goals as goal

pub returns-then-is_closed-clause-ok : goal.returns-then-is_closed-clause-ok
returns-then-is_closed-clause-ok g c =
    let s : State g.row.B.Denot = c.args.self.now.state in
    let f : c.is_closed.result ≡ true = search rules in
    ap (λ (x : LearnerState g.row.B.Denot). record { members = s.members; learner = x })
    (closed_voted s.members c.args.node (record { slot = c.args.slot; ballot = c.args.ballot; entry = c.args.entry.now }) s.learner
    (sym c.is_closed.ensures ∙ f))

pub returns-then-is_closed-clause-disagree : goal.returns-then-is_closed-clause-disagree
returns-then-is_closed-clause-disagree g c =
    let s : State g.row.B.Denot = c.args.self.now.state in
    let f : c.is_closed.result ≡ true = search rules in
    let no =
    closed_votes_agree g.B.Body.same s.members c.args.node (record { slot = c.args.slot; ballot = c.args.ballot; entry = c.args.entry.now }) s.learner
    (sym c.is_closed.ensures ∙ f) in
    (λ h. absurd (cc), λ h. absurd (let k = sym no ∙ h in cc))

pub learn-requires : goal.learn-requires
learn-requires g c =
    let n : c.is_closed.result ≡ false = search rules in
    let o : is_closed c.self.inside.learned.floor c.args.slot ≡ false =
    ap (λ (s : Held g.row.B.Denot). is_closed s.state.learner.floor c.args.slot) c.self.view_is ∙ sym c.is_closed.ensures ∙ n in
    open_above c.self.inside.learned.floor c.args.slot o

pub returns-then-not-majority-clause-ok : goal.returns-then-not-majority-clause-ok
returns-then-not-majority-clause-ok g c =
    let p : SlotBallot = record { slot = c.args.slot; ballot = c.args.ballot } in
    let v : Vote g.row.B.Denot = record { slot = c.args.slot; ballot = c.args.ballot; entry = c.args.entry.now } in
    let l : LearnerState g.row.B.Denot =
    record { floor = c.self.inside.learned.floor; heard = c.self.inside.heard.heard; learned = c.self.inside.learned.learned } in
    let n : c.is_closed.result ≡ false = search rules in
    let o : is_closed c.self.inside.learned.floor c.args.slot ≡ false =
    ap (λ (s : Held g.row.B.Denot). is_closed s.state.learner.floor c.args.slot) c.self.view_is ∙ sym c.is_closed.ensures ∙ n in
    let f : c.majority.result ≡ false = search rules in
    let set : c.with-nodes.result ≡ set_with (nodes_heard p c.self.inside.heard.heard) c.args.node =
    c.with-nodes.ensures ∙ ap (λ (s : List Bool). set_with s c.args.node) c.nodes.ensures in
    let few : is_majority c.self.inside.members (is_in (set_with (nodes_heard p c.self.inside.heard.heard) c.args.node)) ≡ false =
    ap (λ (s : List Bool). is_majority c.self.inside.members (is_in s)) (sym set) ∙ sym c.majority.ensures.value ∙ f in
    on_ok_weaker c.hear.result
    (λ (e : c.hear.new.self.heard ≡ hear c.args.node p c.self.inside.heard.heard).
    ap (λ (h : Heard). record { members = c.self.inside.members; learner = record { floor = c.self.inside.learned.floor; heard = h; learned = c.self.inside.learned.learned } }) e
    ∙ ap (λ (x : LearnerState g.row.B.Denot). record { members = c.self.inside.members; learner = x }) (few_voted c.self.inside.members c.args.node v l o few)
    ∙ ap (λ (s : Held g.row.B.Denot). voted c.args.node v s.state) c.self.view_is) c.hear.ensures.ok

pub returns-then-not-majority-clause-disagree : goal.returns-then-not-majority-clause-disagree
returns-then-not-majority-clause-disagree g c =
    let p : SlotBallot = record { slot = c.args.slot; ballot = c.args.ballot } in
    let v : Vote g.row.B.Denot = record { slot = c.args.slot; ballot = c.args.ballot; entry = c.args.entry.now } in
    let l : LearnerState g.row.B.Denot =
    record { floor = c.self.inside.learned.floor; heard = c.self.inside.heard.heard; learned = c.self.inside.learned.learned } in
    let f : c.majority.result ≡ false = search rules in
    let set : c.with-nodes.result ≡ set_with (nodes_heard p c.self.inside.heard.heard) c.args.node =
    c.with-nodes.ensures ∙ ap (λ (s : List Bool). set_with s c.args.node) c.nodes.ensures in
    let few : is_majority c.self.inside.members (is_in (set_with (nodes_heard p c.self.inside.heard.heard) c.args.node)) ≡ false =
    ap (λ (s : List Bool). is_majority c.self.inside.members (is_in s)) (sym set) ∙ sym c.majority.ensures.value ∙ f in
    let no : vote_disagrees g.B.Body.same c.args.self.now.state.members c.args.node v c.args.self.now.state.learner ≡ false =
    ap (λ (s : Held g.row.B.Denot). vote_disagrees g.B.Body.same s.state.members c.args.node v s.state.learner) (sym c.self.view_is)
    ∙ few_agree g.B.Body.same c.self.inside.members c.args.node v l few in
    (λ h. absurd (let k = rw h at c.hear.ensures.memory in cc), λ h. absurd (let k = sym no ∙ h in cc))

pub returns-in_err-learn-clause-err : goal.returns-in_err-learn-clause-err
returns-in_err-learn-clause-err g c =
    on_err c.from_residual.result _
    (state_same c.self.inside.members c.learn.new.learned.floor c.self.inside.learned.floor c.self.inside.heard.heard c.self.inside.heard.heard
    c.learn.new.learned.learned c.self.inside.learned.learned c.learn.ensures.floor refl c.in_err-learn.ensures.err
    ∙ ap (λ (s : Held g.row.B.Denot). s.state) c.self.view_is)

pub returns-in_err-learn-clause-disagree : goal.returns-in_err-learn-clause-disagree
returns-in_err-learn-clause-disagree g c =
    let p : SlotBallot = record { slot = c.args.slot; ballot = c.args.ballot } in
    let v : Vote g.row.B.Denot = record { slot = c.args.slot; ballot = c.args.ballot; entry = c.args.entry.now } in
    let l : LearnerState g.row.B.Denot =
    record { floor = c.self.inside.learned.floor; heard = c.self.inside.heard.heard; learned = c.self.inside.learned.learned } in
    let n : c.is_closed.result ≡ false = search rules in
    let o : is_closed c.self.inside.learned.floor c.args.slot ≡ false =
    ap (λ (s : Held g.row.B.Denot). is_closed s.state.learner.floor c.args.slot) c.self.view_is ∙ sym c.is_closed.ensures ∙ n in
    let f : c.majority.result ≡ true = search rules in
    let set : c.with-nodes.result ≡ set_with (nodes_heard p c.self.inside.heard.heard) c.args.node =
    c.with-nodes.ensures ∙ ap (λ (s : List Bool). set_with s c.args.node) c.nodes.ensures in
    let most : is_majority c.self.inside.members (is_in (set_with (nodes_heard p c.self.inside.heard.heard) c.args.node)) ≡ true =
    ap (λ (s : List Bool). is_majority c.self.inside.members (is_in s)) (sym set) ∙ sym c.majority.ensures.value ∙ f in
    let is : is_other g.B.Body.same c.args.entry.now (learned_at c.args.slot c.self.inside.learned.learned)
    ≡ vote_disagrees g.B.Body.same c.args.self.now.state.members c.args.node v c.args.self.now.state.learner =
    most_agree g.B.Body.same c.self.inside.members c.args.node v l o most
    ∙ ap (λ (s : Held g.row.B.Denot). vote_disagrees g.B.Body.same s.state.members c.args.node v s.state.learner) c.self.view_is in
    let given : c.from_residual.result ≡ Err c.in_err-learn.field-0.0 = search rules in (
      λ h. sym is ∙ c.learn.ensures.disagree.0 (c.in_err-learn.was ∙ sym given ∙ h),
      λ h. given ∙ sym c.in_err-learn.was ∙ c.learn.ensures.disagree.1 (is ∙ h),
    )

pub unreachable-requires : goal.unreachable-requires
unreachable-requires g c =
    let p : SlotBallot = record { slot = c.args.slot; ballot = c.args.ballot } in
    let f : c.majority.result ≡ true = search rules in
    let set : c.with-nodes.result ≡ set_with (nodes_heard p c.self.inside.heard.heard) c.args.node =
    c.with-nodes.ensures ∙ ap (λ (s : List Bool). set_with s c.args.node) c.nodes.ensures in
    let most : is_majority c.self.inside.members (is_in (set_with (nodes_heard p c.self.inside.heard.heard) c.args.node)) ≡ true =
    ap (λ (s : List Bool). is_majority c.self.inside.members (is_in s)) (sym set) ∙ sym c.majority.ensures.value ∙ f in
    let low : 3 ≤ c.self.inside.members = omega (arith, c.count-count.ensures.value, c.count-count.ensures.least) in
    let high : c.self.inside.members ≤ 7 = omega (arith, c.count-count.ensures.value, c.count-count.ensures.most) in
    heard_before c.self.inside.members c.args.node p c.self.inside.heard.heard low high most c.in_default.ensures.absent

pub returns-clause-ok : goal.returns-clause-ok
returns-clause-ok g c =
    let p : SlotBallot = record { slot = c.args.slot; ballot = c.args.ballot } in
    let v : Vote g.row.B.Denot = record { slot = c.args.slot; ballot = c.args.ballot; entry = c.args.entry.now } in
    let l : LearnerState g.row.B.Denot =
    record { floor = c.self.inside.learned.floor; heard = c.self.inside.heard.heard; learned = c.self.inside.learned.learned } in
    let n : c.is_closed.result ≡ false = search rules in
    let o : is_closed c.self.inside.learned.floor c.args.slot ≡ false =
    ap (λ (s : Held g.row.B.Denot). is_closed s.state.learner.floor c.args.slot) c.self.view_is ∙ sym c.is_closed.ensures ∙ n in
    let f : c.majority.result ≡ true = search rules in
    let set : c.with-nodes.result ≡ set_with (nodes_heard p c.self.inside.heard.heard) c.args.node =
    c.with-nodes.ensures ∙ ap (λ (s : List Bool). set_with s c.args.node) c.nodes.ensures in
    let most : is_majority c.self.inside.members (is_in (set_with (nodes_heard p c.self.inside.heard.heard) c.args.node)) ≡ true =
    ap (λ (s : List Bool). is_majority c.self.inside.members (is_in s)) (sym set) ∙ sym c.majority.ensures.value ∙ f in
    state_same c.self.inside.members c.learn.new.learned.floor c.self.inside.learned.floor c.hear-2.new.self.heard
    (hear c.args.node p c.self.inside.heard.heard) c.learn.new.learned.learned _ c.learn.ensures.floor c.in-Ok.ensures.ok c.in_ok-learn.ensures.ok
    ∙ ap (λ (x : LearnerState g.row.B.Denot). record { members = c.self.inside.members; learner = x }) (most_voted c.self.inside.members c.args.node v l o most)
    ∙ ap (λ (s : Held g.row.B.Denot). voted c.args.node v s.state) c.self.view_is
