use Rattle.std.proofs.Common.{◌≡◌, true, false, sym, ap, ◌∙◌, refl, rules}
use Rattle.paxos_learner.specs.Learned.{is_closed}
use Rattle.paxos_learner.specs.Learner.{Held, LearnerState, State, told}
use Rattle.paxos_learner.proofs.Counting.{open_above, state_same, learn_parts, learn_closed}
use Rattle.paxos_learner.proofs.learner.Learner.tell_in_room.Goals as goal

pub returns-then-is_closed-clause-state : goal.returns-then-is_closed-clause-state
returns-then-is_closed-clause-state g c =
    let s : State g.row.B.Denot = c.args.self.now.state in
    let f : c.is_closed.result ≡ true = search rules in
    let o : is_closed s.learner.floor c.args.slot ≡ true =
    ap (λ (h : Held g.row.B.Denot). is_closed h.state.learner.floor c.args.slot) (sym c.self.view_is) ∙ sym c.is_closed.ensures ∙ f in
    ap (λ (x : LearnerState g.row.B.Denot). record { members = s.members; learner = x })
    (learn_closed c.args.slot c.args.entry s.learner o)

pub learn_in_place-requires-clause-above : goal.learn_in_place-requires-clause-above
learn_in_place-requires-clause-above g c =
    let n : c.is_closed.result ≡ false = search rules in
    open_above c.self.inside.learned.floor c.args.slot (sym c.is_closed.ensures ∙ n)

pub returns-clause-state : goal.returns-clause-state
returns-clause-state g c =
    let l : LearnerState g.row.B.Denot =
    record { floor = c.self.inside.learned.floor; heard = c.self.inside.heard.heard; learned = c.self.inside.learned.learned } in
    let n : c.is_closed.result ≡ false = search rules in
    let o : is_closed c.self.inside.learned.floor c.args.slot ≡ false = sym c.is_closed.ensures ∙ n in
    state_same c.self.inside.members c.learn_in_place.new.learned.floor c.self.inside.learned.floor c.self.inside.heard.heard
    c.self.inside.heard.heard c.learn_in_place.new.learned.learned _ c.learn_in_place.ensures.floor refl c.learn_in_place.ensures.learned
    ∙ ap (λ (x : LearnerState g.row.B.Denot). record { members = c.self.inside.members; learner = x })
    (sym (learn_parts c.args.slot c.args.entry l o))
    ∙ ap (λ (s : Held g.row.B.Denot). told c.args.slot c.args.entry s.state) c.self.view_is
