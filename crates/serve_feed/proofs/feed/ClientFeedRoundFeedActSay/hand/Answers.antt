use Rattle.std.proofs.Common.{◌≡◌, ◌∷◌, ◌∙◌, List, sym, ap, subst, rules}
use Rattle.std.specs.Vec.Iter.{into_iter_items}
use Rattle.realm_machine.specs.declared.sayings.say.Say.{Say}
use Rattle.serve_feed.specs.Hears.{Hear}
use Rattle.serve_feed.specs.Says.{said_to}
use Rattle.serve_feed.proofs.Hearing.{hear_none, hear_next, hear_quiet}
use Rattle.serve_feed.proofs.feed.ClientFeedRoundFeedActSay.hand.Goals as goal

pub loop-say-init : goal.loop-say-init
loop-say-init c =
    let node = c.args.self.now.node in
    let boot = c.args.self.now.boot.number in (
      c.stay.ensures.node,
      c.stay.ensures.boot,
      ap (λ l. l.sources) c.stay.ensures.lanes,
      λ after h.
          subst (λ (says : List Say). Hear (said_to node boot says) c.args.self.now.lanes.lanes.items after)
          c.into_iter-say-iterator.ensures.into_iter_gives.0
          (subst (λ l. Hear (said_to node boot (into_iter_items c.into_iter-say-iterator.result)) l.lanes.items after) c.stay.ensures.lanes h),
    )

pub loop-say-preserved : goal.loop-say-preserved
loop-say-preserved c =
    let was = c.loop-say.invariant in
    let here = c.loop-say.self in
    let next = c.tell.new.self in
    let rest : List Say = into_iter_items c.next.new.self in
    let step : into_iter_items c.loop-say.say-iterator ≡ c.in-Some.say ∷ rest = search rules in (
      c.tell.ensures.node ∙ was.0,
      c.tell.ensures.boot ∙ was.1,
      c.tell.ensures.sources ∙ was.2,
      λ after h.
          was.3 after
          (hear_next c.args.self.now.node c.args.self.now.boot.number here.node here.boot.number (into_iter_items c.loop-say.say-iterator) rest
          c.in-Some.say here.lanes.lanes.items next.lanes.lanes.items after step was.0 was.1 c.tell.ensures.hears h),
    )

pub returns-clause-hears : goal.returns-clause-hears
returns-clause-hears c =
    let node = c.args.self.now.node in
    let boot = c.args.self.now.boot.number in
    let here = c.loop-say.self.lanes.lanes.items in
    hear_quiet (said_to node boot c.args.says.items) c.args.self.now.lanes.lanes.items here c.wake_told.new.self.lanes.items
    (c.loop-say.invariant.3 here
    (hear_none node boot (into_iter_items c.loop-say.say-iterator) here
    (sym c.loop-say.say-iterator.rest.ok.0 ∙ c.in-None.ensures.steps.0)))
    c.wake_told.ensures.hears
