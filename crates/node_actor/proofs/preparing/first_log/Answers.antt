use Rattle.std.proofs.Common.{◌≡◌, true, None, Some, Err, ap, refl, sym, subst, ◌∙◌, rules}
use Rattle.replica_machine.specs.declared.fault.LoadFault.TheVariants as load
use Rattle.actor_parts.specs.Snapshots.{unboxed, IsMadeOf}
use Rattle.node_actor.specs.Snapshots.{IsFirstLog}
use Rattle.node_actor.proofs.Joining.{reads_made}
use Rattle.node_actor.proofs.Starting.{first_made, first_none}
use Rattle.node_actor.proofs.preparing.first_log.Goals as goal

pub returns-in-Ok-Some-clause-ok : goal.returns-in-Ok-Some-clause-ok
returns-in-Ok-Some-clause-ok g c =
    let some : c.in-Ok-Some.field-0 ≡ Some c.in-Ok-Some.made = search rules in
    subst (λ log. IsFirstLog g.M.Machine.content g.M.Machine.loaded c.args.machine c.args.rows.now.snapshot log) (sym c.into_inner.ensures)
    (first_made g.M.Machine.content g.M.Machine.loaded c.args.machine c.args.rows.now.snapshot c.in-Ok-Some.made.value
    (subst (λ o. IsMadeOf g.M.Machine.content g.M.Machine.loaded c.args.rows.now.snapshot (unboxed o)) some c.in-Ok-Some.ensures.made))

pub returns-in-Ok-Some-clause-readable : goal.returns-in-Ok-Some-clause-readable
returns-in-Ok-Some-clause-readable g c =
    reads_made g.M.Machine.steps g.M.Machine.content g.M.Machine.loaded true c.args.rows.now.snapshot (unboxed c.in-Ok-Some.field-0)
    c.in-Ok-Some.ensures.made

pub returns-in-Ok-None-clause-ok : goal.returns-in-Ok-None-clause-ok
returns-in-Ok-None-clause-ok g c =
    let none : c.in-Ok-None.field-0 ≡ None = search rules in
    first_none g.M.Machine.content g.M.Machine.loaded c.args.machine c.args.rows.now.snapshot c.new.result
    (subst (λ o. IsMadeOf g.M.Machine.content g.M.Machine.loaded c.args.rows.now.snapshot (unboxed o)) none c.in-Ok-None.ensures.made)
    c.new.ensures.empty

pub returns-in-Ok-None-clause-readable : goal.returns-in-Ok-None-clause-readable
returns-in-Ok-None-clause-readable g c =
    reads_made g.M.Machine.steps g.M.Machine.content g.M.Machine.loaded true c.args.rows.now.snapshot (unboxed c.in-Ok-None.field-0)
    c.in-Ok-None.ensures.made

pub returns-in-Err-Damaged-clause-err : goal.returns-in-Err-Damaged-clause-err
returns-in-Err-Damaged-clause-err g c =
    let fault : c.in-Err-Damaged.field-0 ≡ load.Damaged = search rules in
    (refl, c.load_log.ensures.damaged (c.in-Err-Damaged.is ∙ ap Err fault))
