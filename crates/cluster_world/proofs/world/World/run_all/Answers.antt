-- One event after the other.
use Rattle.std.proofs.Common.{◌≡◌, ◌++◌, ◌∙◌, sym, ap, subst, arith, List, [], length, take, refl}
use Rattle.std.proofs.lemmas.List.{append-nil}
use Rattle.paxos_node.specs.declared.event.Event.{Event}
use Rattle.replica_machine.specs.Log.{machine_from}
use Rattle.cluster_world.specs.MemberSnapshots.{with_octets}
use Rattle.cluster_world.specs.StandsAt.{ShowsAt, StandsAt}
use Rattle.cluster_world.proofs.Worlds.{later_all, later_both, given_up_same, given_up_then, renews_first}
use Rattle.cluster_world.proofs.Reading.{run_none, runs_on, run_whole, shows_more}
use Rattle.cluster_world.proofs.world.World.run_all.Goals as goal

pub loop-index-init : goal.loop-index-init
loop-index-init g c =
    let now = c.args.self.now in (
      refl,
      omega arith,
      λ es h. ([], subst (λ (l : List (Event _)). ShowsAt g.M.Body.Body.same now l) (sym (append-nil es)) h),
      λ first es h.
          subst
          (λ (l : List (Event _)). StandsAt g.M.Body.Body.same g.M.Machine.content g.M.Machine.saved g.M.Machine.loaded
          (machine_from g.M.Machine.steps first) now l)
          (run_none es c.args.events.now) h,
      later_all now,
      given_up_same now,
      refl,
      λ none. refl,
      λ e one at. absurd (cc),
    )

pub loop-index-preserved : goal.loop-index-preserved
loop-index-preserved g c =
    let i = c.loop-index.invariant in
    let was = c.args.self.now in
    let mid = c.loop-index.self in
    let new = c.step.new.self in (
      c.in-Ok.ensures.members ∙ i.0,
      omega (arith, c.loop-index-test.true),
      λ es h.
          let led = i.2 es h in
          let on = c.in-Ok.ensures.shows_ok (es ++ led.0) led.1 in
          shows_more (λ (l : List (Event _)). ShowsAt g.M.Body.Body.same new l) es led.0 (with_octets on.0 c.index-events-index.result) on.1,
      λ first es h.
          subst
          (λ (l : List (Event _)). StandsAt g.M.Body.Body.same g.M.Machine.content g.M.Machine.saved g.M.Machine.loaded (machine_from g.M.Machine.steps first)
          new l)
          (runs_on es c.args.events.now c.loop-index.index c.index-events-index.result c.loop-index-test.true c.index-events-index.is)
          (c.in-Ok.ensures.ok first (es ++ take c.loop-index.index c.args.events.now) (i.3 first es h)),
      later_both was mid new i.4 c.in-Ok.ensures.later,
      given_up_then was mid new i.4 c.in-Ok.ensures.later i.5 c.in-Ok.ensures.given_up,
      c.in-Ok.ensures.first ∙ i.6,
      λ none. absurd (omega (arith, none)),
      λ e one at.
          renews_first g.M.Machine.loaded was mid new c.args.events.now c.loop-index.index c.index-events-index.result e i.7
          c.index-events-index.is one (omega (arith, at)) c.in-Ok.ensures.renewed,
    )

pub returns-in_default-clause-shows : goal.returns-in_default-clause-shows
returns-in_default-clause-shows g c = λ es h.
    let led = c.loop-index.invariant.2 es h in (led.0, c.in_default.ensures.shows_err (es ++ led.0) led.1)

pub returns-in_default-clause-err : goal.returns-in_default-clause-err
returns-in_default-clause-err g c = λ first es h. (
  c.loop-index-test.true,
  c.in_default.ensures.err first (es ++ take c.loop-index.index c.args.events.now) (c.loop-index.invariant.3 first es h),
)

pub returns-in_default-clause-later : goal.returns-in_default-clause-later
returns-in_default-clause-later g c =
    later_both c.args.self.now c.loop-index.self c.step.new.self c.loop-index.invariant.4 c.step.ensures.later

pub returns-in_default-clause-given_up : goal.returns-in_default-clause-given_up
returns-in_default-clause-given_up g c =
    given_up_then c.args.self.now c.loop-index.self c.step.new.self c.loop-index.invariant.4 c.step.ensures.later c.loop-index.invariant.5
    c.step.ensures.given_up

pub returns-clause-shows : goal.returns-clause-shows
returns-clause-shows g c = λ es h. c.loop-index.invariant.2 es h

pub returns-clause-ok : goal.returns-clause-ok
returns-clause-ok g c = λ first es h.
    subst
    (λ (l : List (Event _)). StandsAt g.M.Body.Body.same g.M.Machine.content g.M.Machine.saved g.M.Machine.loaded (machine_from g.M.Machine.steps first)
    c.loop-index.self l)
    (run_whole es c.args.events.now c.loop-index.index (omega (arith, c.loop-index-test.false)))
    (c.loop-index.invariant.3 first es h)

pub returns-clause-renewed : goal.returns-clause-renewed
returns-clause-renewed g c = λ e one.
    let long : length c.args.events.now ≡ 1 = ap (λ (l : List (Event _)). length l) one in
    c.loop-index.invariant.8 e one (omega (arith, long, c.loop-index-test.false, c.loop-index.invariant.1))
