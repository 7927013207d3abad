-- What is left of a log that is cut.
use Rattle.std.proofs.Common.{◌≡◌, sym, ap, ◌∙◌, subst, ◌<◌, ◌++◌, [], false, not}
use Rattle.replica_machine.specs.Log.{LogState, cut_log, length_in}
use Rattle.replica_follower.specs.Following.{Followed, up_to}
use Rattle.replica_follower.proofs.Holding.{whole_log}
use Rattle.replica_follower.proofs.Loading.{Stands, emptied, empty, rest_held, cut_ahead, cut_none, cut_all, rests}
use Rattle.replica_follower.proofs.follower.Follower.rest_on.Goals as goal

pub invariant_of-self-2 : goal.invariant_of-self-2
invariant_of-self-2 g c =
    rest_held c.cut.new.self (not c.is_empty.result)
    (ap (λ (l : LogState g.row.M-Body.Denot g.row.M.Denot). l.ahead) c.cut.ensures.cut ∙ (cut_ahead c.self.inside.applied ∙ c.self.invariant.ahead))
    (λ alive. sym c.applied.ensures ∙ emptied c.applied.result.now c.is_empty.result c.is_empty.ensures alive)

pub returns-clause-log : goal.returns-clause-log
returns-clause-log g c = λ was within.
    let log_is : c.self.inside.applied ≡ c.args.self.now.log
    = sym (whole_log c.self.inside.stands c.self.inside.applied (c.self.invariant.whole c.if-self.false))
    ∙ ap (λ (v : Followed g.row.M-Body.Denot g.row.M.Denot g.row.M-Say.Denot). v.log) c.self.view_is in
    ap (λ (l : LogState g.row.M-Body.Denot g.row.M.Denot). up_to 0 l)
    (c.cut.ensures.cut ∙ ap (λ (l : LogState g.row.M-Body.Denot g.row.M.Denot). cut_log l) log_is)
    ∙ cut_all c.args.self.now.log within

pub returns-clause-given_up : goal.returns-clause-given_up
returns-clause-given_up g c = λ within.
    let log_is : c.self.inside.applied ≡ c.args.self.now.log
    = sym (whole_log c.self.inside.stands c.self.inside.applied (c.self.invariant.whole c.if-self.false))
    ∙ ap (λ (v : Followed g.row.M-Body.Denot g.row.M.Denot g.row.M-Say.Denot). v.log) c.self.view_is in
    let was : c.args.self.now.given_up ≡ false
    = sym (ap (λ (v : Followed g.row.M-Body.Denot g.row.M.Denot g.row.M-Say.Denot). v.given_up) c.self.view_is) ∙ c.if-self.false in
    empty c.applied.result.now c.is_empty.result c.is_empty.ensures
    (c.applied.ensures
    ∙ (ap (λ (l : LogState g.row.M-Body.Denot g.row.M.Denot). l.applied)
    (c.cut.ensures.cut ∙ ap (λ (l : LogState g.row.M-Body.Denot g.row.M.Denot). cut_log l) log_is)
    ∙ cut_none c.args.self.now.log within))
    ∙ sym was

pub returns-clause-follows : goal.returns-clause-follows
returns-clause-follows g c = λ first under follows alive.
    let machine = g.M.Machine in
    let log_is : c.self.inside.applied ≡ c.args.self.now.log
    = sym (whole_log c.self.inside.stands c.self.inside.applied (c.self.invariant.whole c.if-self.false))
    ∙ ap (λ (v : Followed g.row.M-Body.Denot g.row.M.Denot g.row.M-Say.Denot). v.log) c.self.view_is in
    let was : c.args.self.now.given_up ≡ false
    = sym (ap (λ (v : Followed g.row.M-Body.Denot g.row.M.Denot g.row.M-Say.Denot). v.given_up) c.self.view_is) ∙ c.if-self.false in
    let cut : c.cut.new.self ≡ cut_log c.args.self.now.log
    = c.cut.ensures.cut ∙ ap (λ (l : LogState g.row.M-Body.Denot g.row.M.Denot). cut_log l) log_is in
    let none = sym c.applied.ensures ∙ emptied c.applied.result.now c.is_empty.result c.is_empty.ensures alive in
    subst (λ (l : LogState g.row.M-Body.Denot g.row.M.Denot).
    Stands machine.steps machine.content first (under ++ c.args.self.now.log.applied) (up_to 0 l)) (sym cut)
    (rests machine.steps machine.content first under c.args.self.now.log (follows was)
    (sym (ap (λ (l : LogState g.row.M-Body.Denot g.row.M.Denot). l.applied) cut) ∙ none))
