use Rattle.std.proofs.Common.{◌≡◌, List, Bool, true, false, sym, ap, ◌∙◌, rules}
use Rattle.paxos_packets.specs.Members.{is_majority, is_in, set_with}
use Rattle.paxos_packets.specs.declared.vote.Vote.{Vote}
use Rattle.paxos_learner.specs.Tallies.{Heard, hear, nodes_heard, place_of}
use Rattle.paxos_learner.specs.Learned.{is_closed}
use Rattle.paxos_learner.specs.Learner.{Held, LearnerState, State, voted}
use Rattle.paxos_learner.proofs.Counting.{few_voted, most_voted, open_above, state_same, closed_voted}
use Rattle.paxos_learner.proofs.learner.Learner.vote_in_room.Goals as goal

pub returns-then-is_closed-clause-state : goal.returns-then-is_closed-clause-state
returns-then-is_closed-clause-state g c =
    let v : Vote g.row.B.Denot = c.args.vote in
    let s : State g.row.B.Denot = c.args.self.now.state in
    let f : c.is_closed.result ≡ true = search rules in
    let o : is_closed s.learner.floor v.slot ≡ true =
    ap (λ (h : Held g.row.B.Denot). is_closed h.state.learner.floor v.slot) (sym c.self.view_is) ∙ sym c.is_closed.ensures ∙ f in
    ap (λ (x : LearnerState g.row.B.Denot). record { members = s.members; learner = x })
    (closed_voted s.members c.args.node v s.learner o)

pub learn_in_place-requires-clause-above : goal.learn_in_place-requires-clause-above
learn_in_place-requires-clause-above g c =
    let n : c.is_closed.result ≡ false = search rules in
    open_above c.self.inside.learned.floor c.args.vote.slot (sym c.is_closed.ensures ∙ n)

pub returns-then-not-majority-clause-state : goal.returns-then-not-majority-clause-state
returns-then-not-majority-clause-state g c =
    let v : Vote g.row.B.Denot = c.args.vote in
    let l : LearnerState g.row.B.Denot =
    record { floor = c.self.inside.learned.floor; heard = c.self.inside.heard.heard; learned = c.self.inside.learned.learned } in
    let n : c.is_closed.result ≡ false = search rules in
    let o : is_closed c.self.inside.learned.floor v.slot ≡ false = sym c.is_closed.ensures ∙ n in
    let f : c.majority.result ≡ false = search rules in
    let set : c.with-voters.result ≡ set_with (nodes_heard (place_of v) c.self.inside.heard.heard) c.args.node =
    c.with-voters.ensures ∙ ap (λ (s : List Bool). set_with s c.args.node) c.nodes.ensures in
    let few : is_majority c.self.inside.members (is_in (set_with (nodes_heard (place_of v) c.self.inside.heard.heard) c.args.node)) ≡ false =
    ap (λ (s : List Bool). is_majority c.self.inside.members (is_in s)) (sym set) ∙ sym c.majority.ensures.value ∙ f in
    ap (λ (h : Heard). record { members = c.self.inside.members; learner = record { floor = c.self.inside.learned.floor; heard = h; learned = c.self.inside.learned.learned } })
    c.in-Ok.ensures.ok
    ∙ ap (λ (x : LearnerState g.row.B.Denot). record { members = c.self.inside.members; learner = x })
    (few_voted c.self.inside.members c.args.node v l o few)
    ∙ ap (λ (s : Held g.row.B.Denot). voted c.args.node v s.state) c.self.view_is

pub returns-clause-state : goal.returns-clause-state
returns-clause-state g c =
    let v : Vote g.row.B.Denot = c.args.vote in
    let l : LearnerState g.row.B.Denot =
    record { floor = c.self.inside.learned.floor; heard = c.self.inside.heard.heard; learned = c.self.inside.learned.learned } in
    let n : c.is_closed.result ≡ false = search rules in
    let o : is_closed c.self.inside.learned.floor v.slot ≡ false = sym c.is_closed.ensures ∙ n in
    let f : c.majority.result ≡ true = search rules in
    let set : c.with-voters.result ≡ set_with (nodes_heard (place_of v) c.self.inside.heard.heard) c.args.node =
    c.with-voters.ensures ∙ ap (λ (s : List Bool). set_with s c.args.node) c.nodes.ensures in
    let most : is_majority c.self.inside.members (is_in (set_with (nodes_heard (place_of v) c.self.inside.heard.heard) c.args.node)) ≡ true =
    ap (λ (s : List Bool). is_majority c.self.inside.members (is_in s)) (sym set) ∙ sym c.majority.ensures.value ∙ f in
    state_same c.self.inside.members c.learn_in_place.new.learned.floor c.self.inside.learned.floor c.hear.new.self.heard
    (hear c.args.node (place_of v) c.self.inside.heard.heard) c.learn_in_place.new.learned.learned _ c.learn_in_place.ensures.floor
    c.in-Ok.ensures.ok c.learn_in_place.ensures.learned
    ∙ ap (λ (x : LearnerState g.row.B.Denot). record { members = c.self.inside.members; learner = x })
    (most_voted c.self.inside.members c.args.node v l o most)
    ∙ ap (λ (s : Held g.row.B.Denot). voted c.args.node v s.state) c.self.view_is
