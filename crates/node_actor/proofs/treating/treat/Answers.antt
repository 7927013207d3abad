use Rattle.std.proofs.Common.{◌≡◌, ◌∷◌, ◌++◌, [], true, false, ap, subst, sym, ◌∙◌, rules}
use Rattle.std.proofs.lemmas.Result.{IfOk-from_err}
use Rattle.actor_parts.specs.Tried.{events_in}
use Rattle.actor_parts.proofs.Carrying.{on_err_still}
use Rattle.node_actor.specs.Heard.{heard_in}
use Rattle.node_actor.specs.MidRound.{Amid}
use Rattle.node_actor.specs.Trying.{acting_before}
use Rattle.node_actor.proofs.Treated.{delivered_here, next_here, over_err, passed_here, plans_packet, to_make}
use Rattle.node_actor.proofs.treating.treat.Goals as goal

-- there was no memory to note it

pub returns-in_default-clause-trying : goal.returns-in_default-clause-trying
returns-in_default-clause-trying g c = IfOk-from_err c.stop_here.result _ c.stop_here.ensures.err

pub returns-in_default-clause-sound : goal.returns-in_default-clause-sound
returns-in_default-clause-sound g c = on_err_still c.stop_here.result _ c.stop_here.ensures.sound

pub returns-in_default-clause-seated : goal.returns-in_default-clause-seated
returns-in_default-clause-seated g c = on_err_still c.stop_here.result _ c.stop_here.ensures.seated

pub returns-in_default-clause-treats : goal.returns-in_default-clause-treats
returns-in_default-clause-treats g c = λ own old view start at left a.
    over_err c.stop_here.result _ _ c.stop_here.ensures.err
    (c.stop_here.ensures.ends own (to_make _ _ _ c.args.parts.now c.args.seat.now c.args.staged.now c.requires.trying _ _ _ _ _ own old view start at
    c.args.from c.args.packet left c.args.says.now.items c.args.came.now a) old view start a.all a.looks a.fresh a.heads a.due)

-- it is passed over
pub returns-then-not-is_treated-clause-treats : goal.returns-then-not-is_treated-clause-treats
returns-then-not-is_treated-clause-treats g c = λ own old view start at left a.
    let off : c.is_treated.result ≡ false = search rules in
    let noted : c.push.new.self ≡ c.args.came.now ++ record { from = c.args.from; heard = heard_in c.args.packet.kind } ∷ [] =
    c.in-Ok.ensures.ok ∙ ap (λ h. c.args.came.now ++ record { from = c.args.from; heard = h } ∷ []) c.heard_in-heard.ensures in
    subst (λ hs. Amid g.M.Body.Body.same g.M.Machine.steps g.M.Machine.content g.M.Machine.loaded g.K.Keeper.holds g.K.Keeper.finds
    g.K.Keeper.failures own old view start at c.args.from left (events_in c.args.staged.now.tried)
    (acting_before c.args.parts.now c.args.seat.now) c.args.says.now.items hs) (sym noted)
    (passed_here _ _ _ c.args.parts.now c.args.seat.now c.args.staged.now c.requires.trying _ _ _ _ _ own old view start at c.args.from c.args.packet
    left c.args.says.now.items c.args.came.now a (sym c.is_treated.ensures ∙ off))

-- it is made or tried
pub make_one-requires-clause-own : goal.make_one-requires-clause-own
make_one-requires-clause-own g c =
    let on : c.is_treated.result ≡ true = search rules in
    plans_packet _ _ _ c.args.parts.now c.args.seat.now c.args.staged.now c.requires.trying c.args.packet (sym c.is_treated.ensures ∙ on)

pub returns-in-Ok-make_one-clause-treats : goal.returns-in-Ok-make_one-clause-treats
returns-in-Ok-make_one-clause-treats g c = λ own old view start at left a.
    let on : c.is_treated.result ≡ true = search rules in
    let treated = sym c.is_treated.ensures ∙ on in
    let noted : c.push.new.self ≡ c.args.came.now ++ record { from = c.args.from; heard = heard_in c.args.packet.kind } ∷ [] =
    c.in-Ok.ensures.ok ∙ ap (λ h. c.args.came.now ++ record { from = c.args.from; heard = h } ∷ []) c.heard_in-heard.ensures in
    let due = to_make _ _ _ c.args.parts.now c.args.seat.now c.args.staged.now c.requires.trying _ _ _ _ _ own old view start at c.args.from
    c.args.packet left c.args.says.now.items c.args.came.now a in
    let next = next_here _ _ _ c.args.parts.now c.args.seat.now c.args.staged.now c.requires.trying _ _ _ _ _ own old view start at c.args.from
    c.args.packet left c.args.says.now.items c.args.came.now a treated in
    subst (λ hs. Amid g.M.Body.Body.same g.M.Machine.steps g.M.Machine.content g.M.Machine.loaded g.K.Keeper.holds g.K.Keeper.finds
    g.K.Keeper.failures own old view start at c.args.from left (events_in c.make_one.new.staged.tried)
    (acting_before c.make_one.new.parts c.make_one.new.seat) c.make_one.new.says.items hs) (sym noted)
    (delivered_here _ _ _ c.args.parts.now c.args.seat.now c.args.staged.now c.requires.trying _ _ _ _ _ own old view start at c.args.from
    c.args.packet left c.args.says.now.items c.args.came.now a (events_in c.make_one.new.staged.tried)
    (acting_before c.make_one.new.parts c.make_one.new.seat) c.make_one.new.says.items treated c.in-Ok-make_one.held
    (c.in-Ok-make_one.ensures.makes own due old view start a.all a.looks a.fresh a.up a.heads next))

-- a fault ended the round
pub returns-in-Err-clause-treats : goal.returns-in-Err-clause-treats
returns-in-Err-clause-treats g c = λ own old view start at left a.
    let on : c.is_treated.result ≡ true = search rules in
    let due = to_make _ _ _ c.args.parts.now c.args.seat.now c.args.staged.now c.requires.trying _ _ _ _ _ own old view start at c.args.from
    c.args.packet left c.args.says.now.items c.args.came.now a in
    c.in-Err.ensures.makes own due old view start a.all a.looks a.fresh a.up a.heads
    (next_here _ _ _ c.args.parts.now c.args.seat.now c.args.staged.now c.requires.trying _ _ _ _ _ own old view start at c.args.from c.args.packet
    left c.args.says.now.items c.args.came.now a (sym c.is_treated.ensures ∙ on))
