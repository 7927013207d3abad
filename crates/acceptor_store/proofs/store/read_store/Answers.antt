use Rattle.std.proofs.Common.{◌≡◌, ⊎_elim, inl, inr, rules}
use Rattle.sqlite.specs.Held.{state}
use Rattle.acceptor_store.specs.Tables.{store_schema}
use Rattle.acceptor_store.proofs.Refusing.{same_fault}
use Rattle.acceptor_store.proofs.Telling.{tells_other}
use Rattle.acceptor_store.proofs.store.read_store.Goals as goal

pub returns-in-Ok-false-clause-open : goal.returns-in-Ok-false-clause-open
returns-in-Ok-false-clause-open g c clean unfit =
    c.judge.ensures.open clean (⊎_elim (λ d. inl (same_fault d)) (λ v. inr (same_fault v)) unfit)

pub returns-in-Ok-false-clause-tells : goal.returns-in-Ok-false-clause-tells
returns-in-Ok-false-clause-tells g c clean =
    let differs : c.args.conn.now.schema ≡ store_schema → ⊥ = search rules in
    tells_other g.C.Coder.reading (state g.S.Store c.args.conn.now).now c.judge.result differs (c.judge.ensures.version clean) (c.judge.ensures.damaged clean) c.judge.ensures.below
