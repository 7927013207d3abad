use Rattle.std.proofs.Common.{◌≡◌, ◌∙◌, ℕ, true, false, [], ap, refl, rules, sym, subst}
use Rattle.std.proofs.lemmas.Result.{err_from_is_err_and}
use Rattle.cluster_world.specs.Has.{Has}
use Rattle.paxos_packets.specs.Members.{IsMember}
use Rattle.actor_outboxes.specs.Outboxes.{IsPeer}
use Rattle.actor_parts.specs.Tried.{events_in}
use Rattle.actor_parts.proofs.Carrying.{who_on}
use Rattle.node_actor.specs.Actor.{acting, acting_since}
use Rattle.node_actor.specs.Trying.{acting_before}
use Rattle.node_actor.proofs.PacketsNext.{settled}
use Rattle.node_actor.proofs.TryingNext.{tries_none}
use Rattle.node_actor.proofs.WholeRound.{amid_begun, amid_end, begun_ended, ended_since, round_done, round_none}
use Rattle.node_actor.proofs.rounding.round.Goals as goal

pub returns-then-is_spoiled-clause-rounds : goal.returns-then-is_spoiled-clause-rounds
returns-then-is_spoiled-clause-rounds g c =
    let ended : c.args.parts.now.spoiled ≡ true = search rules in
    round_none g.M.Body.Body.same g.M.Machine.steps g.M.Machine.content g.M.Machine.loaded g.K.Keeper.holds g.K.Keeper.finds g.K.Keeper.failures
    c.args.own.items (acting_since c.args.last.now c.args.parts.now c.args.seat.now) c.args.seat.now c.args.says.now.items ended

pub make_own-requires-clause-trying : goal.make_own-requires-clause-trying
make_own-requires-clause-trying g c =
    let fresh : c.args.parts.now.spoiled ≡ false = search rules in
    tries_none _ _ _ c.args.parts.now c.args.seat.now c.nothing_tried-staged.result c.requires.sound c.requires.seated fresh
    c.nothing_tried-staged.ensures.tried c.nothing_tried-staged.ensures.ahead

pub returns-in_err-held-clause-rounds : goal.returns-in_err-held-clause-rounds
returns-in_err-held-clause-rounds g c =
    let fresh : c.args.parts.now.spoiled ≡ false = search rules in
    let p = err_from_is_err_and c.from_residual.result c.from_residual.ensures.1 in
    rw (p.1, p.2) (begun_ended g.M.Body.Body.same g.M.Machine.steps g.M.Machine.content g.M.Machine.loaded g.K.Keeper.holds g.K.Keeper.finds
    g.K.Keeper.failures g.K.Keeper.is_failed c.args.own.items c.args.parts.now c.args.seat.now c.args.says.now.items c.requires.sound
    c.requires.seated fresh c.args.last.now c.begin_round.new.self (acting c.make_own.new.parts c.make_own.new.seat) c.make_own.new.says.items
    c.in_err-held.field-0.0 c.in_err-held.ensures.makes)

pub treat_others-requires-clause-first : goal.treat_others-requires-clause-first
treat_others-requires-clause-first g c = subst (λ n. IsMember n c.args.first.now) (sym c.make_own.ensures.who.members) c.requires.first

pub returns-in-Err-clause-rounds : goal.returns-in-Err-clause-rounds
returns-in-Err-clause-rounds g c =
    let fresh : c.args.parts.now.spoiled ≡ false = search rules in
    let amid = amid_begun g.M.Body.Body.same g.M.Machine.steps g.M.Machine.content g.M.Machine.loaded g.K.Keeper.holds g.K.Keeper.finds
    g.K.Keeper.failures g.K.Keeper.is_failed c.args.own.items c.args.parts.now c.args.seat.now c.args.says.now.items c.requires.sound
    c.requires.seated fresh c.args.first.now (events_in c.make_own.new.staged.tried) (acting_before c.make_own.new.parts c.make_own.new.seat)
    c.make_own.new.says.items c.begin_round.new.self.came c.in_ok-held.ensures.makes.0 (ap (λ l. l.came) c.begin_round.ensures) in
    ended_since g.M.Body.Body.same g.M.Machine.steps g.M.Machine.content g.M.Machine.loaded g.K.Keeper.holds g.K.Keeper.finds g.K.Keeper.failures
    c.args.own.items (acting c.args.parts.now c.args.seat.now) c.args.seat.now c.args.says.now.items c.args.last.now _
    (acting c.treat_others.new.parts c.treat_others.new.seat) c.treat_others.new.says.items c.in-Err.fault fresh
    (c.in-Err.ensures.treats c.args.own.items (acting c.args.parts.now c.args.seat.now) c.args.seat.now c.args.says.now.items amid)

pub returns-in-Err-flush-clause-rounds : goal.returns-in-Err-flush-clause-rounds
returns-in-Err-flush-clause-rounds g c =
    let fresh : c.args.parts.now.spoiled ≡ false = search rules in
    let amid = amid_begun g.M.Body.Body.same g.M.Machine.steps g.M.Machine.content g.M.Machine.loaded g.K.Keeper.holds g.K.Keeper.finds
    g.K.Keeper.failures g.K.Keeper.is_failed c.args.own.items c.args.parts.now c.args.seat.now c.args.says.now.items c.requires.sound
    c.requires.seated fresh c.args.first.now (events_in c.make_own.new.staged.tried) (acting_before c.make_own.new.parts c.make_own.new.seat)
    c.make_own.new.says.items c.begin_round.new.self.came c.in_ok-held.ensures.makes.0 (ap (λ l. l.came) c.begin_round.ensures) in
    let t = c.in_default.ensures.treats c.args.own.items (acting c.args.parts.now c.args.seat.now) c.args.seat.now c.args.says.now.items amid in
    ended_since g.M.Body.Body.same g.M.Machine.steps g.M.Machine.content g.M.Machine.loaded g.K.Keeper.holds g.K.Keeper.finds g.K.Keeper.failures
    c.args.own.items (acting c.args.parts.now c.args.seat.now) c.args.seat.now c.args.says.now.items c.args.last.now _
    (acting c.flush.new.parts c.flush.new.seat) c.flush.new.says.items c.in-Err-flush.fault fresh
    (amid_end g.M.Body.Body.same g.M.Machine.steps g.M.Machine.content g.M.Machine.loaded g.K.Keeper.holds g.K.Keeper.finds g.K.Keeper.failures
    c.args.own.items (acting c.args.parts.now c.args.seat.now) c.args.seat.now c.args.says.now.items t.0 t.1
    (events_in c.treat_others.new.staged.tried) (acting_before c.treat_others.new.parts c.treat_others.new.seat)
    (acting c.flush.new.parts c.flush.new.seat) c.treat_others.new.says.items c.flush.new.says.items c.treat_others.new.came c.in-Err-flush.fault
    t.3 c.in-Err-flush.ensures.makes)

pub post_waiting-last-requires-clause-serving : goal.post_waiting-last-requires-clause-serving
post_waiting-last-requires-clause-serving g c = c.in_default-flush.ensures.trying.fresh

pub after-requires : goal.after-requires
after-requires g c =
    let who = who_on c.args.parts.now c.treat_others.new.parts c.flush.new.parts
    (who_on c.args.parts.now c.make_own.new.parts c.treat_others.new.parts c.make_own.ensures.who c.treat_others.ensures.who) c.flush.ensures.who in
    subst (λ n. IsMember n c.args.first.now) (sym (c.members.ensures ∙ c.flush.ensures.sound.members ∙ who.members)) c.requires.first

pub returns-clause-rounds : goal.returns-clause-rounds
returns-clause-rounds g c =
    let fresh : c.args.parts.now.spoiled ≡ false = search rules in
    let amid = amid_begun g.M.Body.Body.same g.M.Machine.steps g.M.Machine.content g.M.Machine.loaded g.K.Keeper.holds g.K.Keeper.finds
    g.K.Keeper.failures g.K.Keeper.is_failed c.args.own.items c.args.parts.now c.args.seat.now c.args.says.now.items c.requires.sound
    c.requires.seated fresh c.args.first.now (events_in c.make_own.new.staged.tried) (acting_before c.make_own.new.parts c.make_own.new.seat)
    c.make_own.new.says.items c.begin_round.new.self.came c.in_ok-held.ensures.makes.0 (ap (λ l. l.came) c.begin_round.ensures) in
    let t = c.in_default.ensures.treats c.args.own.items (acting c.args.parts.now c.args.seat.now) c.args.seat.now c.args.says.now.items amid in
    let a = settled g.M.Body.Body.same g.M.Machine.steps g.M.Machine.content g.M.Machine.loaded g.K.Keeper.holds g.K.Keeper.finds g.K.Keeper.failures
    c.args.own.items (acting c.args.parts.now c.args.seat.now) c.args.seat.now c.args.says.now.items t.0 t.1 []
    (events_in c.treat_others.new.staged.tried) (acting_before c.treat_others.new.parts c.treat_others.new.seat)
    (acting c.flush.new.parts c.flush.new.seat) c.treat_others.new.says.items c.flush.new.says.items c.treat_others.new.came tt t.3
    c.in_default-flush.ensures.makes in
    let still = c.post_waiting-last.ensures.posts.beside.only.spoiled ∙ c.in_default-flush.ensures.trying.fresh in
    let who = c.make_own.ensures.who in
    let each : (k : ℕ) → IsPeer c.args.parts.now.node.me c.args.parts.now.node.members k → Has t.0 k =
    λ k peer. t.2 k (subst (λ (z : ℕ × ℕ). IsPeer z.0 z.1 k) (λ i. (sym who.me i, sym who.members i)) peer) in
    round_done g.M.Body.Body.same g.M.Machine.steps g.M.Machine.content g.M.Machine.loaded g.K.Keeper.holds g.K.Keeper.finds g.K.Keeper.failures
    c.args.own.items (acting c.args.parts.now c.args.seat.now) c.args.seat.now c.args.says.now.items t.1 t.0 c.flush.new.parts
    c.post_waiting-last.new.parts c.flush.new.seat c.post_waiting-last.new.seat c.flush.new.says.items c.treat_others.new.came
    c.post_waiting-last.result a c.post_waiting-last.ensures.posts c.post_waiting-last.ensures.seated
    (c.post_waiting-last.ensures.sound.serves still).up each c.args.last.now _ refl refl c.in_ok-held.held c.in_ok-held.ensures.makes.1

pub returns-clause-who : goal.returns-clause-who
returns-clause-who g c =
    let before = who_on c.args.parts.now c.treat_others.new.parts c.flush.new.parts
    (who_on c.args.parts.now c.make_own.new.parts c.treat_others.new.parts c.make_own.ensures.who c.treat_others.ensures.who) c.flush.ensures.who in
    let only = c.post_waiting-last.ensures.posts.beside.only in
    who_on c.args.parts.now c.flush.new.parts c.post_waiting-last.new.parts before
    (record { me = ap (λ n. n.me) only.node; members = ap (λ n. n.members) only.node; waits_me = only.me; waits_members = only.members })

pub returns-clause-first : goal.returns-clause-first
returns-clause-first g c =
    let only = c.post_waiting-last.ensures.posts.beside.only in
    subst (λ n. IsMember n c.after.result) (c.members.ensures ∙ c.flush.ensures.sound.members ∙ ap (λ n. n.members) (sym only.node))
    c.after.ensures.member
