use Rattle.std.proofs.Common.{◌≡◌, Bool, cond, ◌&&◌, Result, Err, ap, sym, ◌∙◌, subst}
use Rattle.std.specs.Prelude.{IfOk}
use Rattle.paxos_packets.specs.Body.{IsEquality}
use Rattle.paxos_node.specs.declared.fault.NodeFault.{NodeFault}
use Rattle.paxos_node.specs.declared.fault.NodeFault.TheVariants.{Disagree}
use Rattle.paxos_node.specs.declared.outcome.Outcome.{Outcome}
use Rattle.paxos_planning.specs.Drafting.{listed}
use Rattle.paxos_node.specs.Adopting.{Fits, Planned}
use Rattle.paxos_node.specs.Plans.{Answers, finds_other, is_memory}
use Rattle.paxos_node.proofs.Disagreeing.{answers_other, memory_is_last, ok_stays}
use Rattle.paxos_planning.specs.Node.{NodeState}
use Rattle.paxos_planning.specs.Plan.{begun}
use Rattle.paxos_node.specs.Applying.{settle}
use Rattle.paxos_node.specs.Events.{owner, on_event, outcome_of, made_by, is_round_refused, is_full_refused}
use Rattle.paxos_node.proofs.Answering.{is_own, is_one_planned, is_then_possible, is_then_up, owner_answers, planned_fits}
use Rattle.paxos_node.proofs.node.Node.plan.Goals as goal

pub plan_own-planned-requires-clause-up : goal.plan_own-planned-requires-clause-up
plan_own-planned-requires-clause-up g c =
    is_then_up c.args.self.now.me c.args.event.now c.args.self.now.state (sym c.plans.ensures ∙ c.if-not-plans.false)

pub plan_own-planned-requires-clause-own : goal.plan_own-planned-requires-clause-own
plan_own-planned-requires-clause-own g c =
    is_own c.args.self.now.me c.args.event.now c.args.self.now.state (sym c.plans.ensures ∙ c.if-not-plans.false)

pub plan_own-planned-requires-clause-planned : goal.plan_own-planned-requires-clause-planned
plan_own-planned-requires-clause-planned g c =
    is_one_planned c.args.self.now.me c.args.event.now c.args.self.now.state (sym c.plans.ensures ∙ c.if-not-plans.false)

pub plan_own-planned-requires-clause-possible : goal.plan_own-planned-requires-clause-possible
plan_own-planned-requires-clause-possible g c =
    is_then_possible c.args.self.now.me c.args.event.now c.args.self.now.state (sym c.plans.ensures ∙ c.if-not-plans.false)

pub finds_other-other-requires : goal.finds_other-other-requires
finds_other-other-requires g c =
    is_then_up c.args.self.now.me c.args.event.now c.args.self.now.state (sym c.plans.ensures ∙ c.if-not-plans.false)

pub returns-clause-planned : goal.returns-clause-planned
returns-clause-planned g c = λ own.
    let x : NodeState g.row.B.Denot = c.args.self.now.state in
    let equality : IsEquality g.B.Body.same = record { reflexive = g.met.B.Body.reflexive; sound = g.met.B.Body.sound } in
    let mine : owner c.args.event.now ≡ c.args.self.now.me = is_own c.args.self.now.me c.args.event.now x own in
    let result : c.unless_other.result ≡ cond (is_memory c.plan_own-planned.result && finds_other g.B.Body.same c.args.self.now.members c.args.self.now.me c.args.event.now x) (Err Disagree) c.plan_own-planned.result =
    c.unless_other.ensures ∙ ap (λ (b : Bool). cond b (Err Disagree) c.plan_own-planned.result) c.finds_other-other.ensures in
    subst (λ (r : Result (Outcome g.row.B.Denot) NodeFault). Answers (is_round_refused c.args.event.now x) (is_full_refused g.B.Body.same c.args.event.now x)
    (outcome_of g.B.Body.same c.args.self.now.members c.args.event.now x).disagrees
    (λ o. Planned g.B.Body.same c.args.self.now.members c.args.event.now x o) r) (sym result)
    (answers_other g.B.Body.same equality c.args.self.now.members c.args.self.now.me c.args.event.now x c.plan_own-planned.result mine
    (is_round_refused c.args.event.now x) (is_full_refused g.B.Body.same c.args.event.now x)
    (λ o. Planned g.B.Body.same c.args.self.now.members c.args.event.now x o)
    (owner_answers g.B.Body.same c.args.self.now.me c.args.self.now.members c.args.event.now x c.plan_own-planned.result mine c.plan_own-planned.ensures.answered))

pub returns-clause-memory : goal.returns-clause-memory
returns-clause-memory g c = λ own last.
    let x : NodeState g.row.B.Denot = c.args.self.now.state in
    let equality : IsEquality g.B.Body.same = record { reflexive = g.met.B.Body.reflexive; sound = g.met.B.Body.sound } in
    let mine : owner c.args.event.now ≡ c.args.self.now.me = is_own c.args.self.now.me c.args.event.now x own in
    let result : c.unless_other.result ≡ cond (is_memory c.plan_own-planned.result && finds_other g.B.Body.same c.args.self.now.members c.args.self.now.me c.args.event.now x) (Err Disagree) c.plan_own-planned.result =
    c.unless_other.ensures ∙ ap (λ (b : Bool). cond b (Err Disagree) c.plan_own-planned.result) c.finds_other-other.ensures in
    memory_is_last g.B.Body.same equality c.args.self.now.members c.args.self.now.me c.args.event.now x c.plan_own-planned.result mine (sym result ∙ last)

pub returns-clause-fits : goal.returns-clause-fits
returns-clause-fits g c =
    let x : NodeState g.row.B.Denot = c.args.self.now.state in
    subst (λ (r : Result (Outcome g.row.B.Denot) NodeFault). IfOk r (λ o. Fits c.args.self.now.me c.args.self.now.members o x)) (sym c.unless_other.ensures)
    (ok_stays (λ o. Fits c.args.self.now.me c.args.self.now.members o x) c.finds_other-other.result c.plan_own-planned.result
    (planned_fits c.args.self.now.me c.args.self.now.members x (is_round_refused c.args.event.now x) (is_full_refused g.B.Body.same c.args.event.now x)
    (settle c.args.self.now.me (on_event g.B.Body.same c.args.self.now.members c.args.event.now (begun x))).disagrees
    (on_event g.B.Body.same c.args.self.now.members c.args.event.now (begun x)) c.plan_own-planned.result c.plan_own-planned.ensures.answered))

pub returns-clause-made : goal.returns-clause-made
returns-clause-made g c = λ own.
    subst (λ (r : Result (Outcome g.row.B.Denot) NodeFault). IfOk r (λ o. listed o.moves.added ≡ made_by g.B.Body.same c.args.event.now c.args.self.now.state))
    (sym c.unless_other.ensures)
    (ok_stays (λ o. listed o.moves.added ≡ made_by g.B.Body.same c.args.event.now c.args.self.now.state) c.finds_other-other.result
    c.plan_own-planned.result c.plan_own-planned.ensures.made)
