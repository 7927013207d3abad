-- The log has the snapshot's floor.
use Rattle.std.proofs.Common.{◌<◌, ◌^◌, ◌∙◌, sym, subst}
use Rattle.std.specs.Prelude.{IsSomeAnd}
use Rattle.replica_machine.specs.Snapshot.{loaded_log, IsLoaded}
use Rattle.actor_parts.proofs.Basing.{made_floor}
use Rattle.actor_parts.proofs.loading.load_from.Goals as goal

pub returns-clause-made : goal.returns-clause-made
returns-clause-made g c =
    let content = g.M.Machine.content in
    let loaded = g.M.Machine.loaded in
    let s = c.args.snapshot.now in
    let log = c.in-Ok.made.value in
    let made : IsSomeAnd (loaded_log loaded s.octets) (λ kept. IsLoaded content kept log) =
    subst (λ l. IsSomeAnd (loaded_log loaded s.octets) (λ kept. IsLoaded content kept l)) (sym c.in-Ok.ensures.ok)
    (subst (λ os. IsSomeAnd (loaded_log loaded os) (λ kept. IsLoaded content kept c.in_ok-log.log)) c.octets.ensures.octets
    c.in_ok-log.ensures.loaded) in
    let within : s.floor < 2 ^ 40 = subst (λ n. n < 2 ^ 40) (c.get-floor.ensures.value ∙ c.floor.ensures) c.get-floor.ensures.most in
    (made, made_floor content loaded s.floor log s.octets c.octets.ensures.begins within made)
