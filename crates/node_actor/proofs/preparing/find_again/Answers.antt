use Rattle.std.proofs.Common.{◌≡◌, ◌<◌, ◌∙◌, true, ap, subst, rules}
use Rattle.std.specs.Prelude.{Err, is_some}
use Rattle.store_keeper.specs.declared.fault.KeeperFault.TheVariants as store
use Rattle.node_actor.specs.Compare.{fit_of}
use Rattle.node_actor.specs.Preparing.{change_in, Loads, unread, unjudged}
use Rattle.node_actor.proofs.Booting.{failed_some, found_of, refused_of}
use Rattle.node_actor.proofs.preparing.find_again.Goals as goal

pub returns-in-Err-clause-err : goal.returns-in-Err-clause-err
returns-in-Err-clause-err g c =
    let failed : c.in-Err.fault ≡ store.Store → g.K.Keeper.failures c.args.keeper.now < g.K.Keeper.failures c.load.new.self =
    λ e. c.load.ensures.store (c.in-Err.is ∙ ap Err e) in
    unread c.args.kept.now c.in-Err.fault c.requires
    (record { same_rows = c.load.ensures.same; found = c.load.ensures.found; counted = c.load.ensures.counts }) failed
    (λ true_to r held e. c.load.ensures.sound true_to r held (c.in-Err.is ∙ ap Err e))

pub returns-in-Err-fit_of-clause-err : goal.returns-in-Err-fit_of-clause-err
returns-in-Err-fit_of-clause-err g c =
    let failed : is_some c.args.post.now.failed ≡ true =
    failed_some c.args.post.now.failed (subst (λ f. is_some f ≡ true) c.change.ensures c.in-Err-fit_of.ensures.failed) in
    unjudged c.args.kept.now c.in-Ok.rows c.requires (record {
      stays = record { same_rows = c.load.ensures.same; found = c.load.ensures.found; counted = c.load.ensures.counts };
      held = c.in-Ok.ensures.held;
      right = c.in-Ok.ensures.right;
    }) c.in-Err-fit_of.ensures.other failed

pub returns-in-Ok-fit_of-clause-ok : goal.returns-in-Ok-fit_of-clause-ok
returns-in-Ok-fit_of-clause-ok g c =
    let loads : Loads g.M.Body.Body.same g.K.Keeper.holds g.K.Keeper.finds g.K.Keeper.is_faithful g.K.Keeper.failures c.args.keeper.now
    c.load.new.self c.in-Ok.rows =
    record {
      stays = record { same_rows = c.load.ensures.same; found = c.load.ensures.found; counted = c.load.ensures.counts };
      held = c.in-Ok.ensures.held;
      right = c.in-Ok.ensures.right;
    } in
    let fits : fit_of g.M.Body.Body.same (change_in c.args.post.now.failed) c.args.kept.now c.in-Ok.rows ≡ c.in-Ok-fit_of.fit = search rules in
    found_of g.M.Body.Body.same g.M.Machine.loaded g.K.Keeper.holds g.K.Keeper.finds g.K.Keeper.is_faithful g.K.Keeper.failures
    c.args.post.now c.args.keeper.now c.load.new.self c.args.kept.now c.in-Ok.rows c.in-Ok-fit_of.fit c.events.result
    c.count.result c.requires loads fits c.events.ensures c.count.ensures c.judged.result
    c.judged.ensures.ok

pub returns-in-Ok-fit_of-clause-err : goal.returns-in-Ok-fit_of-clause-err
returns-in-Ok-fit_of-clause-err g c =
    let loads : Loads g.M.Body.Body.same g.K.Keeper.holds g.K.Keeper.finds g.K.Keeper.is_faithful g.K.Keeper.failures c.args.keeper.now
    c.load.new.self c.in-Ok.rows =
    record {
      stays = record { same_rows = c.load.ensures.same; found = c.load.ensures.found; counted = c.load.ensures.counts };
      held = c.in-Ok.ensures.held;
      right = c.in-Ok.ensures.right;
    } in
    let fits : fit_of g.M.Body.Body.same (change_in c.args.post.now.failed) c.args.kept.now c.in-Ok.rows ≡ c.in-Ok-fit_of.fit = search rules in
    refused_of g.M.Body.Body.same g.M.Machine.loaded g.K.Keeper.holds g.K.Keeper.finds g.K.Keeper.is_faithful g.K.Keeper.failures c.args.post.now
    c.args.keeper.now c.load.new.self c.args.kept.now c.in-Ok.rows c.in-Ok-fit_of.fit c.events.result
    c.count.result c.requires loads fits c.events.ensures c.count.ensures c.judged.result
    c.judged.ensures.err
