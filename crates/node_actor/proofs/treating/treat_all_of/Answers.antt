use Rattle.std.proofs.Common.{◌≡◌, ◌≤◌, ◌-◌, ◌∷◌, ◌∙◌, [], Err, ap, arith, refl, rules, subst, sym}
use Rattle.std.specs.Prelude.{MatchResult}
use Rattle.std.proofs.lemmas.Result.{err_from_is_err_and}
use Rattle.actor_parts.specs.Tried.{events_in}
use Rattle.actor_parts.proofs.Carrying.{who_on}
use Rattle.node_actor.specs.Actor.{acting}
use Rattle.node_actor.specs.MidRound.{Amid, Ended}
use Rattle.node_actor.specs.Trying.{acting_before}
use Rattle.node_actor.proofs.Treated.{Looks, looks_first, looks_next, looks_on, looks_over, peer_still}
use Rattle.node_actor.proofs.treating.treat_all_of.Goals as goal

pub looks-init : goal.looks-init
looks-init g c = (
  looks_first g.M.Body.Body.same g.M.Machine.steps g.M.Machine.content g.M.Machine.loaded g.K.Keeper.holds g.K.Keeper.finds
      g.K.Keeper.failures c.args.from 64 (events_in c.args.staged.now.tried) (acting_before c.args.parts.now c.args.seat.now) c.args.says.now.items
      c.args.came.now,
  c.requires.trying,
  c.requires.owned,
  record { me = refl; members = refl; waits_me = refl; waits_members = refl },
  omega arith,
)

pub look_into-requires-clause-peer : goal.look_into-requires-clause-peer
look_into-requires-clause-peer g c = peer_still c.args.parts.now c.looks.parts c.args.from c.looks.invariant.3 c.requires.peer

pub returns-in_err-found-clause-treats : goal.returns-in_err-found-clause-treats
returns-in_err-found-clause-treats g c = λ own old view start at last a.
    let told = err_from_is_err_and c.from_residual.result c.from_residual.ensures.1 in
    let given : c.from_residual.result ≡ Err c.in_err-found.field-0.0 = told.1 ∙ ap Err told.2 in
    subst (λ r. MatchResult r (λ _. Amid g.M.Body.Body.same g.M.Machine.steps g.M.Machine.content g.M.Machine.loaded g.K.Keeper.holds g.K.Keeper.finds
    g.K.Keeper.failures own old view start (c.args.from ∷ at) c.args.from [] (events_in c.look_into.new.staged.tried)
    (acting_before c.look_into.new.parts c.look_into.new.seat) c.look_into.new.says.items c.look_into.new.came)
    (λ fault. Ended g.M.Body.Body.same g.M.Machine.steps g.M.Machine.content g.M.Machine.loaded g.K.Keeper.holds g.K.Keeper.finds
    g.K.Keeper.failures own old view start (acting c.look_into.new.parts c.look_into.new.seat) c.look_into.new.says.items fault)) (sym given)
    (looks_over g.M.Body.Body.same g.M.Machine.steps g.M.Machine.content g.M.Machine.loaded g.K.Keeper.holds g.K.Keeper.finds
    g.K.Keeper.failures c.args.from 64 c.looks.room (events_in c.args.staged.now.tried) (events_in c.looks.staged.tried)
    (acting_before c.args.parts.now c.args.seat.now) (acting_before c.looks.parts c.looks.seat)
    (acting c.look_into.new.parts c.look_into.new.seat) c.args.says.now.items c.looks.says.items c.look_into.new.says.items c.args.came.now
    c.looks.came c.looks.invariant.0 c.looks.invariant.4 c.in_err-found.field-0.0 c.in_err-found.ensures.treats own old view start at last a)

pub returns-then-found-eq0-clause-treats : goal.returns-then-found-eq0-clause-treats
returns-then-found-eq0-clause-treats g c = λ own old view start at last a.
    looks_on g.M.Body.Body.same g.M.Machine.steps g.M.Machine.content g.M.Machine.loaded g.K.Keeper.holds g.K.Keeper.finds
    g.K.Keeper.failures c.args.from 64 c.looks.room (events_in c.args.staged.now.tried) (events_in c.looks.staged.tried)
    (events_in c.look_into.new.staged.tried) (acting_before c.args.parts.now c.args.seat.now) (acting_before c.looks.parts c.looks.seat)
    (acting_before c.look_into.new.parts c.look_into.new.seat) c.args.says.now.items c.looks.says.items c.look_into.new.says.items c.args.came.now
    c.looks.came c.look_into.new.came c.looks.invariant.0 c.looks.invariant.4 c.in_ok-found.ensures.treats own old view start at last a

pub looks-preserved : goal.looks-preserved
looks-preserved g c =
    let was = c.looks.invariant in
    let some : c.in_ok-found.found ≡ 0 → ⊥ = search rules in
    let left = c.looks-test.true in
    let less : c.looks.room - c.in_ok-found.found ≤ 64 = (let most = was.4 in omega (arith, most)) in (
      subst (λ room. Looks g.M.Body.Body.same g.M.Machine.steps g.M.Machine.content g.M.Machine.loaded g.K.Keeper.holds g.K.Keeper.finds
          g.K.Keeper.failures c.args.from 64 room (events_in c.args.staged.now.tried) (acting_before c.args.parts.now c.args.seat.now)
          c.args.says.now.items c.args.came.now (events_in c.look_into.new.staged.tried)
          (acting_before c.look_into.new.parts c.look_into.new.seat) c.look_into.new.says.items c.look_into.new.came)
          (sym c.saturating_sub-room.ensures)
          (looks_next g.M.Body.Body.same g.M.Machine.steps g.M.Machine.content g.M.Machine.loaded g.K.Keeper.holds g.K.Keeper.finds
          g.K.Keeper.failures c.args.from 64 c.looks.room (events_in c.args.staged.now.tried) (events_in c.looks.staged.tried)
          (events_in c.look_into.new.staged.tried) (acting_before c.args.parts.now c.args.seat.now) (acting_before c.looks.parts c.looks.seat)
          (acting_before c.look_into.new.parts c.look_into.new.seat) c.args.says.now.items c.looks.says.items c.look_into.new.says.items
          c.args.came.now c.looks.came c.look_into.new.came was.0 c.in_ok-found.found was.4 left some c.in_ok-found.ensures.treats),
      c.in_ok-found.ensures.trying,
      c.look_into.ensures.owned,
      who_on c.args.parts.now c.looks.parts c.look_into.new.parts was.3 c.look_into.ensures.who,
      subst (λ room. room ≤ 64) (sym c.saturating_sub-room.ensures) less,
    )
