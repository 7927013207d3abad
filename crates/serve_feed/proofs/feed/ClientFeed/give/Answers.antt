use Rattle.std.proofs.Common.{◌≡◌, ◌∷◌, [], ◌++◌, refl, ap, sym}
use Rattle.std.specs.Option.{option_to_list}
use Rattle.actor_run.specs.Events.{asked_in}
use Rattle.serve_feed.proofs.Giving.{gives_none, gives_other, gives_others, carried}
use Rattle.serve_feed.proofs.feed.ClientFeed.give.Goals as goal
use Rattle.serve_feed.proofs.feed.ClientFeed.give.Goals.{else-self-2-via-else-self-2, else-self-2-via-then-self-2+in-None-1}

pub returns : goal.returns
returns c =
    λ given saw.
    let now = c.args.self.now in
    carried now.node c.due.new.self.node now.lanes.sources c.due.new.self.lanes.sources (given ++ c.due.result ∷ [])
    (sym c.due.ensures.node) (sym c.due.ensures.sources)
    (gives_other now.node c.due.result now.lanes.sources given (c.due.ensures.none now.node) saw)

pub returns-then-self : goal.returns-then-self
returns-then-self c =
    λ given saw.
    let now = c.args.self.now in
    carried now.node c.cut.new.self.node now.lanes.sources c.cut.new.self.lanes.sources (given ++ option_to_list c.cut.result)
    (sym c.cut.ensures.node) (sym c.cut.ensures.sources)
    (gives_others now.node (option_to_list c.cut.result) now.lanes.sources given (c.cut.ensures.none now.node) saw)

pub returns-then-not-may_act : goal.returns-then-not-may_act
returns-then-not-may_act c =
    let now = c.args.self.now in
    let here = c.else-self-2.self in
    let node : here.node ≡ now.node = elim c.else-self-2.branch [
      | else-self-2-via-else-self-2 w ↦ ap (λ s. s.node) w.self-is
      | else-self-2-via-then-self-2+in-None-1 w ↦ ap (λ s. s.node) w.self-is
    ] in
    let sources : here.lanes.sources ≡ now.lanes.sources = elim c.else-self-2.branch [
      | else-self-2-via-else-self-2 w ↦ ap (λ s. s.lanes.sources) w.self-is
      | else-self-2-via-then-self-2+in-None-1 w ↦ ap (λ s. s.lanes.sources) w.self-is
    ] in
    λ given saw.
    let saw_here = carried now.node here.node now.lanes.sources here.lanes.sources given (sym node) (sym sources) saw in
    let after = c.tend.new.self in
    gives_none after.node after.lanes.sources given
    (carried here.node after.node after.lanes.sources after.lanes.sources given (sym c.tend.ensures.node) refl
    (c.tend.ensures.tells (asked_in here.node given) saw_here))

pub returns-2 : goal.returns-2
returns-2 c =
    let now = c.args.self.now in
    let here = c.else-self-2.self in
    let node : here.node ≡ now.node = elim c.else-self-2.branch [
      | else-self-2-via-else-self-2 w ↦ ap (λ s. s.node) w.self-is
      | else-self-2-via-then-self-2+in-None-1 w ↦ ap (λ s. s.node) w.self-is
    ] in
    let sources : here.lanes.sources ≡ now.lanes.sources = elim c.else-self-2.branch [
      | else-self-2-via-else-self-2 w ↦ ap (λ s. s.lanes.sources) w.self-is
      | else-self-2-via-then-self-2+in-None-1 w ↦ ap (λ s. s.lanes.sources) w.self-is
    ] in
    λ given saw. c.act.ensures.saw given (carried now.node here.node now.lanes.sources here.lanes.sources given (sym node) (sym sources) saw)
