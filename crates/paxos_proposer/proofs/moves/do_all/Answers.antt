use Rattle.std.proofs.Common.{◌≡◌, ℕ, ◌+◌, ◌≤◌, cond, List, [], ◌∷◌, length, refl, ap, sym, subst, ◌∙◌, arith}
use Rattle.std.specs.Vec.Iter.{into_iter_items}
use Rattle.std.proofs.lemmas.List.Sums.{sum_by-cons}
use Rattle.paxos_proposer.specs.declared.moves.Move.{Move}
use Rattle.paxos_proposer.specs.Moves.{after_move, after_moves, IsPossible, ArePossible, keeps_promise, keeps_proposal, promises_in, proposals_in}
use Rattle.paxos_proposer.specs.State.{State, Room, HasRoom}
use Rattle.paxos_proposer.proofs.moves.do_all.Goals as goal

-- the room for all is room for the first, and what that leaves is for those after it

first : (own others all had : ℕ) → all ≡ own + others → all ≤ had → own ≤ had
first own others all had e h = omega arith

left : (own others all had have : ℕ) → all ≡ own + others → all ≤ had → had ≤ have + own → others ≤ have
left own others all had have e h l = omega arith

module _ {B : Type 0} (m : Move B) (ms all : List (Move B)) (is : all ≡ m ∷ ms) where
  promises_are : promises_in all ≡ cond (keeps_promise m) 1 0 + promises_in ms
  promises_are = ap (λ (l : List (Move B)). promises_in l) is ∙ sum_by-cons (λ n. cond (keeps_promise n) 1 0) m ms

  proposals_are : proposals_in all ≡ cond (keeps_proposal m) 1 0 + proposals_in ms
  proposals_are = ap (λ (l : List (Move B)). proposals_in l) is ∙ sum_by-cons (λ n. cond (keeps_proposal n) 1 0) m ms

  may_go : (s : State B) → ArePossible all s → IsPossible m s × ArePossible ms (after_move m s)
  may_go s p = subst (λ (l : List (Move B)). ArePossible l s) is p

  go_on : (s t u : State B) (had have : Room)
      → (after_moves all s ≡ u) × ArePossible all s × HasRoom (promises_in all) (proposals_in all) had
      → t ≡ after_move m s → had.promises ≤ have.promises + cond (keeps_promise m) 1 0 → had.proposals ≤ have.proposals + cond (keeps_proposal m) 1 0
      → (after_moves ms t ≡ u) × ArePossible ms t × HasRoom (promises_in ms) (proposals_in ms) have
  go_on s t u had have k did promises proposals = (
    ap (λ (v : State B). after_moves ms v) did ∙ ap (λ (l : List (Move B)). after_moves l s) (sym is) ∙ k.0,
    subst (λ (v : State B). ArePossible ms v) (sym did) (may_go s k.1).1,
    (
      left (cond (keeps_promise m) 1 0) (promises_in ms) (promises_in all) had.promises have.promises promises_are k.2.0 promises,
      left (cond (keeps_proposal m) 1 0) (proposals_in ms) (proposals_in all) had.proposals have.proposals proposals_are k.2.1 proposals,
    ),
  )

pub do_one-requires-clause-possible : goal.do_one-requires-clause-possible
do_one-requires-clause-possible g c =
    (may_go c.in-Some.step (into_iter_items c.next.new.self) (into_iter_items c.loop-step.step-iterator) c.in-Some.ensures.steps.0
    c.loop-step.proposer.state c.loop-step.invariant.1).0

pub do_one-requires-clause-promise : goal.do_one-requires-clause-promise
do_one-requires-clause-promise g c =
    first (cond (keeps_promise c.in-Some.step) 1 0) (promises_in (into_iter_items c.next.new.self)) (promises_in (into_iter_items c.loop-step.step-iterator))
    c.loop-step.proposer.room.promises
    (promises_are c.in-Some.step (into_iter_items c.next.new.self) (into_iter_items c.loop-step.step-iterator) c.in-Some.ensures.steps.0)
    c.loop-step.invariant.2.0

pub do_one-requires-clause-proposal : goal.do_one-requires-clause-proposal
do_one-requires-clause-proposal g c =
    first (cond (keeps_proposal c.in-Some.step) 1 0) (proposals_in (into_iter_items c.next.new.self)) (proposals_in (into_iter_items c.loop-step.step-iterator))
    c.loop-step.proposer.room.proposals
    (proposals_are c.in-Some.step (into_iter_items c.next.new.self) (into_iter_items c.loop-step.step-iterator) c.in-Some.ensures.steps.0)
    c.loop-step.invariant.2.1

pub loop-step-preserved : goal.loop-step-preserved
loop-step-preserved g c =
    go_on c.in-Some.step (into_iter_items c.next.new.self) (into_iter_items c.loop-step.step-iterator) c.in-Some.ensures.steps.0
    c.loop-step.proposer.state c.do_one.new.proposer.state (after_moves c.args.moves.items c.args.proposer.now.state)
    c.loop-step.proposer.room c.do_one.new.proposer.room c.loop-step.invariant
    c.do_one.ensures.state c.do_one.ensures.promises c.do_one.ensures.proposals

pub loop-step-init : goal.loop-step-init
loop-step-init g c =
    let s : State g.row.B.Denot = c.args.proposer.now.state in
    let room : Room = c.args.proposer.now.room in
    subst
    (λ (l : List (Move g.row.B.Denot)). (after_moves l s ≡ after_moves c.args.moves.items s) × ArePossible l s × HasRoom (promises_in l) (proposals_in l) room)
    (sym c.into_iter-step-iterator.ensures.into_iter_gives.0) (refl, c.requires.possible, c.requires.room)

none_left : {B : Type 0} (ms : List (Move B)) (s u : State B) → length ms ≡ 0 → after_moves ms s ≡ u → s ≡ u
none_left [] s u none k = k
none_left (m ∷ ms) s u none k = absurd (omega (arith, none))

pub returns : goal.returns
returns g c =
    none_left (into_iter_items c.loop-step.step-iterator) c.loop-step.proposer.state (after_moves c.args.moves.items c.args.proposer.now.state)
    (sym c.loop-step.step-iterator.rest.ok.0 ∙ c.in-None.ensures.steps.0) c.loop-step.invariant.0
