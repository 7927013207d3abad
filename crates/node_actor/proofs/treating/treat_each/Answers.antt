use Rattle.std.proofs.Common.{◌≡◌, ◌∷◌, ◌∙◌, [], List, Err, ap, refl, rules, subst, sym}
use Rattle.std.specs.Prelude.{MatchResult}
use Rattle.std.proofs.lemmas.Result.{err_from_is_err_and}
use Rattle.std.proofs.lemmas.List.{nil_from_length}
use Rattle.std.specs.Vec.Iter.{into_iter_items}
use Rattle.cluster_world.specs.Has.{Has, here, there}
use Rattle.paxos_packets.specs.declared.packet.Packet.{Packet}
use Rattle.actor_parts.specs.Tried.{events_in}
use Rattle.actor_parts.proofs.Carrying.{who_on}
use Rattle.node_actor.specs.Actor.{acting}
use Rattle.node_actor.specs.MidRound.{Amid, Ended}
use Rattle.node_actor.specs.Trying.{acting_before}
use Rattle.node_actor.proofs.Looking.{came_still}
use Rattle.node_actor.proofs.treating.treat_each.Goals as goal

pub loop-packet-init : goal.loop-packet-init
loop-packet-init g c =
    let all : into_iter_items c.into_iter-packet-iterator.result ≡ c.args.rest.items = search rules in (
      λ own old v start at a.
          subst (λ ps. Amid g.M.Body.Body.same g.M.Machine.steps g.M.Machine.content g.M.Machine.loaded g.K.Keeper.holds g.K.Keeper.finds
          g.K.Keeper.failures own old v start at c.args.from ps (events_in c.args.staged.now.tried)
          (acting_before c.args.parts.now c.args.seat.now) c.args.says.now.items c.args.came.now) (sym all) a,
      c.requires.trying,
      c.requires.owned,
      record { me = refl; members = refl; waits_me = refl; waits_members = refl },
      λ p h. c.requires.received p (subst (λ ps. Has ps p) all h),
    )

pub treat-requires-clause-received : goal.treat-requires-clause-received
treat-requires-clause-received g c =
    let rest : List (Packet g.row.M-Body.Denot) = into_iter_items c.next.new.self in
    let step : into_iter_items c.loop-packet.packet-iterator ≡ c.in-Some.packet ∷ rest = search rules in
    c.loop-packet.invariant.4 c.in-Some.packet (subst (λ ps. Has ps c.in-Some.packet) (sym step) here)

pub returns-in_err-treat-clause-treats : goal.returns-in_err-treat-clause-treats
returns-in_err-treat-clause-treats g c = λ own old view start at a.
    let rest : List (Packet g.row.M-Body.Denot) = into_iter_items c.next.new.self in
    let step : into_iter_items c.loop-packet.packet-iterator ≡ c.in-Some.packet ∷ rest = search rules in
    let told = err_from_is_err_and c.from_residual.result c.from_residual.ensures.1 in
    let given : c.from_residual.result ≡ Err c.in_err-treat.field-0.0 = told.1 ∙ ap Err told.2 in
    subst (λ r. MatchResult r (λ _. Amid g.M.Body.Body.same g.M.Machine.steps g.M.Machine.content g.M.Machine.loaded g.K.Keeper.holds g.K.Keeper.finds
    g.K.Keeper.failures own old view start at c.args.from [] (events_in c.treat.new.staged.tried)
    (acting_before c.treat.new.parts c.treat.new.seat) c.treat.new.says.items c.treat.new.came)
    (λ fault. Ended g.M.Body.Body.same g.M.Machine.steps g.M.Machine.content g.M.Machine.loaded g.K.Keeper.holds g.K.Keeper.finds
    g.K.Keeper.failures own old view start (acting c.treat.new.parts c.treat.new.seat) c.treat.new.says.items fault)) (sym given)
    (c.in_err-treat.ensures.treats own old view start at rest
    (subst (λ ps. Amid g.M.Body.Body.same g.M.Machine.steps g.M.Machine.content g.M.Machine.loaded g.K.Keeper.holds g.K.Keeper.finds
    g.K.Keeper.failures own old view start at c.args.from ps (events_in c.loop-packet.staged.tried)
    (acting_before c.loop-packet.parts c.loop-packet.seat) c.loop-packet.says.items c.loop-packet.came) step
    (c.loop-packet.invariant.0 own old view start at a)))

pub loop-packet-preserved : goal.loop-packet-preserved
loop-packet-preserved g c =
    let was = c.loop-packet.invariant in
    let rest : List (Packet g.row.M-Body.Denot) = into_iter_items c.next.new.self in
    let step : into_iter_items c.loop-packet.packet-iterator ≡ c.in-Some.packet ∷ rest = search rules in (
      λ own old v start at a. c.in_ok-treat.ensures.treats own old v start at rest
          (subst (λ ps. Amid g.M.Body.Body.same g.M.Machine.steps g.M.Machine.content g.M.Machine.loaded g.K.Keeper.holds g.K.Keeper.finds
          g.K.Keeper.failures own old v start at c.args.from ps (events_in c.loop-packet.staged.tried)
          (acting_before c.loop-packet.parts c.loop-packet.seat) c.loop-packet.says.items c.loop-packet.came) step (was.0 own old v start at a)),
      c.in_ok-treat.ensures.trying,
      c.treat.ensures.owned,
      who_on c.args.parts.now c.loop-packet.parts c.treat.new.parts was.3 c.treat.ensures.who,
      λ p h. came_still c.loop-packet.seat c.treat.new.seat c.treat.ensures.stays p (was.4 p (subst (λ ps. Has ps p) (sym step) (there h))),
    )

pub returns-clause-treats : goal.returns-clause-treats
returns-clause-treats g c = λ own old view start at a.
    let none : into_iter_items c.loop-packet.packet-iterator ≡ [] =
    nil_from_length (into_iter_items c.loop-packet.packet-iterator) (sym c.loop-packet.packet-iterator.rest.ok.0 ∙ c.in-None.ensures.steps.0) in
    subst (λ ps. Amid g.M.Body.Body.same g.M.Machine.steps g.M.Machine.content g.M.Machine.loaded g.K.Keeper.holds g.K.Keeper.finds
    g.K.Keeper.failures own old view start at c.args.from ps (events_in c.loop-packet.staged.tried)
    (acting_before c.loop-packet.parts c.loop-packet.seat) c.loop-packet.says.items c.loop-packet.came) none
    (c.loop-packet.invariant.0 own old view start at a)
