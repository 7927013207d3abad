use Rattle.std.proofs.Common.{◌≡◌, ⊎_elim, rules}
use Rattle.acceptor_store.specs.Tables.{old_schema}
use Rattle.acceptor_store.proofs.Refusing.{below_damage, damage_is_old}
use Rattle.acceptor_store.proofs.store.judge.Goals as goal

pub returns-in-Ok-false-clause-below : goal.returns-in-Ok-false-clause-below
returns-in-Ok-false-clause-below g c = below_damage c.damage.result c.damage.ensures.fault

pub returns-in-Ok-false-clause-open : goal.returns-in-Ok-false-clause-open
returns-in-Ok-false-clause-open g c clean unfit =
    ⊎_elim (λ d. c.damage.ensures.open clean d) (λ v. damage_is_old c.damage.result c.damage.ensures.fault v) unfit

pub returns-in-Ok-false-clause-version : goal.returns-in-Ok-false-clause-version
returns-in-Ok-false-clause-version g c clean version = damage_is_old c.damage.result c.damage.ensures.fault version

pub returns-in-Ok-false-clause-damaged : goal.returns-in-Ok-false-clause-damaged
returns-in-Ok-false-clause-damaged g c clean damaged other =
    let differs : c.args.conn.now.schema ≡ old_schema → ⊥ = search rules in
    ⊎_elim (λ this. c.requires this) (λ old. differs old) other.0
