use Rattle.std.proofs.Common.{◌≡◌, true, false, sym, subst, rules}
use Rattle.std.specs.Prelude.{Err, IfErr}
use Rattle.node_actor.specs.Compare.{is_later}
use Rattle.node_actor.specs.Beginning.{IsEmpty}
use Rattle.node_actor.specs.Preparing.{Refuses, unmade, unbooted}
use Rattle.node_actor.specs.Snapshots.{IsFirstLog}
use Rattle.node_actor.proofs.Booting.{snapshot_of, strayed_of, readied_of}
use Rattle.node_actor.proofs.preparing.prepare.Goals as goal

pub returns-in_err-log-clause-err : goal.returns-in_err-log-clause-err
returns-in_err-log-clause-err g c =
    let given : c.from_residual-in_err-log.result ≡ Err c.in_err-log.field-0.0 = search rules in
    subst (λ r. IfErr r (λ f. Refuses g.M.Body.Body.same g.M.Machine.loaded g.K.Keeper.holds g.K.Keeper.finds g.K.Keeper.is_faithful
    g.K.Keeper.failures c.args.post.now c.args.keeper.now c.find.new.keeper f))
    (sym given) (unmade c.in_err-log.field-0.0 c.in_ok-found.found c.in_ok-found.meant c.in_ok-found.ensures.ok c.in_err-log.ensures.err)

pub returns-in_err-rows-clause-err : goal.returns-in_err-rows-clause-err
returns-in_err-rows-clause-err g c =
    let given : c.from_residual-in_err-rows.result ≡ Err c.in_err-rows.field-0.0 = search rules in
    subst (λ r. IfErr r (λ f. Refuses g.M.Body.Body.same g.M.Machine.loaded g.K.Keeper.holds g.K.Keeper.finds g.K.Keeper.is_faithful
    g.K.Keeper.failures c.args.post.now c.args.keeper.now c.boot_up.new.keeper f))
    (sym given) (unbooted c.in_err-rows.field-0.0 c.find.new.keeper c.in_ok-found.found c.in_ok-found.meant c.in_err-rows.ensures.unworn
    c.in_ok-found.ensures.ok c.in_ok-log.ensures.readable c.in_err-rows.ensures.starts c.in_err-rows.ensures.sound)

pub returns-then-not-is_later-clause-err : goal.returns-then-not-is_later-clause-err
returns-then-not-is_later-clause-err g c =
    let off : is_later g.M.Body.Body.same c.in_ok-found.found c.in_ok-rows.rows ≡ false = search rules in
    strayed_of g.M.Body.Body.same g.M.Machine.loaded g.K.Keeper.holds g.K.Keeper.finds g.K.Keeper.is_faithful g.K.Keeper.failures
    c.args.post.now c.args.keeper.now c.find.new.keeper c.boot_up.new.keeper
    (record { reflexive = g.met.M.Body.Body.reflexive; sound = g.met.M.Body.Body.sound }) c.in_ok-found.found c.in_ok-rows.rows
    c.in_ok-found.meant c.in_ok-found.ensures.ok c.in_ok-log.ensures.readable c.in_ok-rows.ensures.boots c.boot_up.ensures.found off

pub returns-clause-ok : goal.returns-clause-ok
returns-clause-ok g c =
    let on : is_later g.M.Body.Body.same c.in_ok-found.found c.in_ok-rows.rows ≡ true = search rules in
    let empty : IsEmpty c.args.post.now.me c.args.post.now.members c.in_ok-rows.outboxes = rw
    (c.me.ensures.number, c.members.ensures) at c.in_ok-rows.ensures.empty in
    readied_of g.M.Body.Body.same g.M.Machine.loaded g.K.Keeper.holds g.K.Keeper.finds g.K.Keeper.is_faithful g.K.Keeper.failures
    c.args.post.now c.args.keeper.now c.find.new.keeper g.K.Keeper.is_failed c.boot_up.new.keeper
    (record { reflexive = g.met.M.Body.Body.reflexive; sound = g.met.M.Body.Body.sound }) c.in_ok-found.found c.in_ok-rows.rows
    c.in_ok-rows.outboxes c.in_ok-found.meant c.in_ok-found.ensures.ok c.in_ok-log.ensures.readable c.in_ok-rows.ensures.boots
    c.boot_up.ensures.found c.boot_up.ensures.faithful c.in_ok-rows.ensures.whole empty on

pub returns-clause-log : goal.returns-clause-log
returns-clause-log g c =
    let on : is_later g.M.Body.Body.same c.in_ok-found.found c.in_ok-rows.rows ≡ true = search rules in
    subst (λ s. IsFirstLog g.M.Machine.content g.M.Machine.loaded c.args.machine s c.in_ok-log.log)
    (sym (snapshot_of g.M.Body.Body.same g.M.Machine.loaded g.K.Keeper.holds g.K.Keeper.finds g.K.Keeper.is_faithful g.K.Keeper.failures
    c.args.post.now c.args.keeper.now c.find.new.keeper c.in_ok-found.found c.in_ok-rows.rows on)) c.in_ok-log.ensures.ok
