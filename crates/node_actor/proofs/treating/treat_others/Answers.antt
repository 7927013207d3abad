use Rattle.std.proofs.Common.{◌≡◌, ◌∙◌, ◌<◌, ◌≤◌, arith, refl, sym, subst, ap}
use Rattle.std.proofs.lemmas.Result.{err_from_is_err_and}
use Rattle.paxos_packets.specs.Members.{IsMember}
use Rattle.actor_parts.specs.Tried.{events_in}
use Rattle.actor_parts.proofs.Carrying.{who_on}
use Rattle.node_actor.specs.Actor.{acting}
use Rattle.node_actor.specs.Trying.{acting_before}
use Rattle.node_actor.specs.Turns.{after}
use Rattle.node_actor.proofs.WholeRound.{treated_all, treated_none, treated_not, treated_one}
use Rattle.node_actor.proofs.treating.treat_others.Goals as goal

pub loop-step-init : goal.loop-step-init
loop-step-init g c = (
  treated_none g.M.Body.Body.same g.M.Machine.steps g.M.Machine.content g.M.Machine.loaded g.K.Keeper.holds g.K.Keeper.finds g.K.Keeper.failures
      c.args.parts.now.node.me c.args.parts.now.node.members c.args.first (events_in c.args.staged.now.tried)
      (acting_before c.args.parts.now c.args.seat.now) c.args.says.now.items c.args.came.now,
  c.requires.first,
  record { me = refl; members = refl; waits_me = refl; waits_members = refl },
  c.requires.owned,
  c.requires.trying,
)

pub treat_other-requires-clause-member : goal.treat_other-requires-clause-member
treat_other-requires-clause-member g c =
    subst (λ n. IsMember n c.loop-step.from) (sym c.loop-step.invariant.2.members) c.loop-step.invariant.1

pub after-from-requires : goal.after-from-requires
after-from-requires g c =
    subst (λ n. IsMember n c.loop-step.from) (sym (c.members-members.ensures ∙ c.requires.trying.sound.members)) c.loop-step.invariant.1

pub returns-in_err-treat_other-clause-treats : goal.returns-in_err-treat_other-clause-treats
returns-in_err-treat_other-clause-treats g c =
    let p = err_from_is_err_and c.from_residual.result c.from_residual.ensures.1 in
    let size = c.members-members.ensures ∙ c.requires.trying.sound.members in
    let left : c.loop-step._step < c.args.parts.now.node.members = omega (arith, c.loop-step-test.true, c.count-step-end.ensures.value, size) in
    rw (p.1, p.2) (treated_not g.M.Body.Body.same g.M.Machine.steps g.M.Machine.content g.M.Machine.loaded g.K.Keeper.holds g.K.Keeper.finds
    g.K.Keeper.failures c.args.parts.now.node.me c.args.parts.now.node.members c.args.first (events_in c.args.staged.now.tried)
    (acting_before c.args.parts.now c.args.seat.now) c.args.says.now.items c.args.came.now c.loop-step._step c.loop-step.from
    (events_in c.loop-step.staged.tried) (acting_before c.loop-step.parts c.loop-step.seat) c.loop-step.says.items c.loop-step.came
    c.loop-step.invariant.2.me left c.loop-step.invariant.0 (acting c.treat_other.new.parts c.treat_other.new.seat)
    c.treat_other.new.says.items c.in_err-treat_other.field-0.0 c.in_err-treat_other.ensures.treats)

pub loop-step-preserved : goal.loop-step-preserved
loop-step-preserved g c =
    let size = c.members-members.ensures ∙ c.requires.trying.sound.members in
    let left : c.loop-step._step < c.args.parts.now.node.members = omega (arith, c.loop-step-test.true, c.count-step-end.ensures.value, size) in
    let next : c.after-from.result ≡ after c.args.parts.now.node.members c.loop-step.from =
    c.after-from.ensures.value ∙ ap (λ n. after n c.loop-step.from) size in (
      treated_one g.M.Body.Body.same g.M.Machine.steps g.M.Machine.content g.M.Machine.loaded g.K.Keeper.holds g.K.Keeper.finds g.K.Keeper.failures
          c.args.parts.now.node.me c.args.parts.now.node.members c.args.first (events_in c.args.staged.now.tried)
          (acting_before c.args.parts.now c.args.seat.now) c.args.says.now.items c.args.came.now c.loop-step._step c.loop-step.from
          (events_in c.loop-step.staged.tried) (acting_before c.loop-step.parts c.loop-step.seat) c.loop-step.says.items c.loop-step.came
          c.loop-step.invariant.2.me left c.loop-step.invariant.0 c.after-from.result (events_in c.treat_other.new.staged.tried)
          (acting_before c.treat_other.new.parts c.treat_other.new.seat) c.treat_other.new.says.items c.treat_other.new.came next
          c.in_ok-treat_other.ensures.treats,
      subst (λ n. IsMember n c.after-from.result) size c.after-from.ensures.member,
      who_on c.args.parts.now c.loop-step.parts c.treat_other.new.parts c.loop-step.invariant.2 c.treat_other.ensures.who,
      c.treat_other.ensures.owned,
      c.in_ok-treat_other.ensures.trying,
    )

pub returns-clause-treats : goal.returns-clause-treats
returns-clause-treats g c =
    let size = c.members-members.ensures ∙ c.requires.trying.sound.members in
    let over : c.args.parts.now.node.members ≤ c.loop-step._step = omega (arith, c.loop-step-test.false, c.count-step-end.ensures.value, size) in
    treated_all g.M.Body.Body.same g.M.Machine.steps g.M.Machine.content g.M.Machine.loaded g.K.Keeper.holds g.K.Keeper.finds g.K.Keeper.failures
    c.args.parts.now.node.me c.args.parts.now.node.members c.args.first (events_in c.args.staged.now.tried)
    (acting_before c.args.parts.now c.args.seat.now) c.args.says.now.items c.args.came.now c.loop-step._step c.loop-step.from
    (events_in c.loop-step.staged.tried) (acting_before c.loop-step.parts c.loop-step.seat) c.loop-step.says.items c.loop-step.came
    c.requires.first over c.loop-step.invariant.0
