use Rattle.std.proofs.Common.{◌≡◌, ◌∷◌, ◌∙◌, [], Some, None, Err, ap, sym, subst}
use Rattle.std.specs.Prelude.{MatchResult}
use Rattle.std.proofs.lemmas.Result.{err_from_is_err_and}
use Rattle.paxos_packets.specs.Members.{IsMember}
use Rattle.actor_parts.specs.Tried.{events_in}
use Rattle.node_actor.specs.Actor.{acting}
use Rattle.node_actor.specs.MidRound.{Amid, Ended}
use Rattle.node_actor.specs.Trying.{acting_before}
use Rattle.node_actor.proofs.Looking.{batch_came}
use Rattle.node_actor.proofs.Treated.{looked_here, trying_looked}
use Rattle.node_actor.proofs.treating.look_into.Goals as goal

pub fetch_all-requires-clause-member : goal.fetch_all-requires-clause-member
fetch_all-requires-clause-member g c = subst (λ n. IsMember n c.args.from) (sym c.requires.trying.seated.members) c.requires.peer.0

pub returns-in_default-clause-trying : goal.returns-in_default-clause-trying
returns-in_default-clause-trying g c =
    trying_looked _ _ _ c.args.parts.now c.args.seat.now c.args.staged.now c.requires.trying c.fetch_all.new.seat c.args.from None
    c.in_default.ensures.fetched

pub returns-in_default-clause-treats : goal.returns-in_default-clause-treats
returns-in_default-clause-treats g c = λ own old view start at last a.
    looked_here _ _ _ c.args.parts.now c.args.seat.now c.args.staged.now c.requires.trying c.fetch_all.new.seat c.args.from None
    c.in_default.ensures.fetched _ _ _ _ _ own old view start at last c.args.says.now.items c.args.came.now c.requires.peer a

pub treat_batch-requires-clause-trying : goal.treat_batch-requires-clause-trying
treat_batch-requires-clause-trying g c =
    trying_looked _ _ _ c.args.parts.now c.args.seat.now c.args.staged.now c.requires.trying c.fetch_all.new.seat c.args.from
    (Some c.in-Some.batch) c.in-Some.ensures.fetched

pub treat_batch-requires-clause-received : goal.treat_batch-requires-clause-received
treat_batch-requires-clause-received g c =
    batch_came c.args.seat.now c.fetch_all.new.seat c.args.from c.in-Some.batch
    (subst (λ n. IsMember n c.args.from) (sym c.requires.trying.seated.members) c.requires.peer.0) c.in-Some.ensures.fetched

pub returns-in_err-treat_batch-clause-treats : goal.returns-in_err-treat_batch-clause-treats
returns-in_err-treat_batch-clause-treats g c = λ own old view start at last a.
    let told = err_from_is_err_and c.from_residual.result c.from_residual.ensures.1 in
    let given : c.from_residual.result ≡ Err c.in_err-treat_batch.field-0.0 = told.1 ∙ ap Err told.2 in
    subst (λ r. MatchResult r (λ _. Amid g.M.Body.Body.same g.M.Machine.steps g.M.Machine.content g.M.Machine.loaded g.K.Keeper.holds g.K.Keeper.finds
    g.K.Keeper.failures own old view start (c.args.from ∷ at) c.args.from [] (events_in c.treat_batch.new.staged.tried)
    (acting_before c.treat_batch.new.parts c.treat_batch.new.seat) c.treat_batch.new.says.items c.treat_batch.new.came)
    (λ fault. Ended g.M.Body.Body.same g.M.Machine.steps g.M.Machine.content g.M.Machine.loaded g.K.Keeper.holds g.K.Keeper.finds
    g.K.Keeper.failures own old view start (acting c.treat_batch.new.parts c.treat_batch.new.seat) c.treat_batch.new.says.items fault)) (sym given)
    (c.in_err-treat_batch.ensures.treats own old view start (c.args.from ∷ at)
    (looked_here _ _ _ c.args.parts.now c.args.seat.now c.args.staged.now c.requires.trying c.fetch_all.new.seat c.args.from (Some c.in-Some.batch)
    c.in-Some.ensures.fetched _ _ _ _ _ own old view start at last c.args.says.now.items c.args.came.now c.requires.peer a))

pub returns-clause-treats : goal.returns-clause-treats
returns-clause-treats g c = λ own old view start at last a.
    c.in_ok-treat_batch.ensures.treats own old view start (c.args.from ∷ at)
    (looked_here _ _ _ c.args.parts.now c.args.seat.now c.args.staged.now c.requires.trying c.fetch_all.new.seat c.args.from (Some c.in-Some.batch)
    c.in-Some.ensures.fetched _ _ _ _ _ own old view start at last c.args.says.now.items c.args.came.now c.requires.peer a)
