use Rattle.std.proofs.Common.{◌≡◌, subst, arith, rules}
use Rattle.sqlite_trees.specs.Tree.{Trees}
use Rattle.sqlite.specs.Effect.{Database}
use Rattle.sqlite.specs.State.{HasCleanDisk, Survives}
use Rattle.sqlite.specs.Held.{state}
use Rattle.sqlite.proofs.StateLemmas.{survives_then}
use Rattle.sqlite.proofs.Callers.{survives_begin}
use Rattle.paxos_packets.specs.declared.rows.Rows.{Rows}
use Rattle.store_rows.specs.Numbers.{numbers_in_rows}
use Rattle.acceptor_store.specs.Tables.{old_schema}
use Rattle.acceptor_store.specs.Store.{StoresOld, Reads}
use Rattle.acceptor_store.proofs.store.renew_store.Goals as goal

pub returns-clause-crash : goal.returns-clause-crash
returns-clause-crash g c =
    let old = c.args.conn.now in
    let last = c.renew_tables.new.tx.conn.now in
    let begun = c.transaction-tx.ensures.begun in
    let W = λ (db : Database). (state g.S.Store old).now.schema ≡ old_schema → (rows : Rows g.row.B.Denot) → StoresOld g.C.Coder.reading (state g.S.Store old).now.trees rows
    → c.args.numbers.now ≡ numbers_in_rows rows → Reads g.C.Coder.reading db rows in
    let P = λ (trees : Trees). (db : Database) × W db × (trees ≡ db.trees) in
    let wrote = λ (early : HasCleanDisk (state g.S.Store last)). let it : W (state g.S.Store last).now = rw begun at (c.in_ok-renew_tables.ensures.renewed early (rw begun)) in it in
    let whole = survives_then (state g.S.Store old) (state g.S.Store last) (state g.S.Store c.end.new.tx.0) (λ _. ⊥) _ P (λ _ db none. absurd none)
    (λ clean db is. (_, wrote (omega (arith, c.end.ensures.survives.clean)), is))
    (survives_begin g.S.Store old (state g.S.Store last) (λ _. ⊥) (rw begun at c.renew_tables.ensures.survives)) c.end.ensures.survives in
    let same : c.end.new.tx.0 ≡ c.conn-2-1.given.0 = search rules in
    subst (λ h. Survives (state g.S.Store old) (state g.S.Store h) P) same whole
