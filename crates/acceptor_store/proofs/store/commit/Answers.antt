use Rattle.std.proofs.Common.{true, false, ◌≡◌, sym, subst, arith, rules, IsTrue}
use Rattle.sqlite_trees.specs.Tree.{Trees}
use Rattle.sqlite_trees.specs.declared.store.Store.{Ghosts}
use Rattle.sqlite.specs.Effect.{Database}
use Rattle.std.proofs.lemmas.Result.{on_ok_weaker}
use Rattle.sqlite.specs.State.{HasCleanDisk, Survives, Shows}
use Rattle.sqlite.specs.Held.{Held, state}
use Rattle.sqlite.proofs.StateLemmas.{survives_then}
use Rattle.sqlite.proofs.Callers.{survives_begin}
use Rattle.acceptor_store.specs.Store.{Wrote}
use Rattle.acceptor_store.specs.Answers.{are_spelled}
use Rattle.acceptor_store.proofs.Refusing.{refuses_conn_err, conn_whole_err, below_conn_err, where_ok}
use Rattle.acceptor_store.proofs.store.commit.Goals as goal

-- a transaction that is abandoned
abandoned : {S : Type 0} (g : Ghosts S) (old begun last end shown : Held S) (P : Trees → Type 0) → begun ≡ record old { in_transaction = true }
    → Survives (state g begun) (state g last) (λ _. ⊥) → Survives (state g last) (state g end) (λ _. ⊥) → end ≡ shown
    → Survives (state g old) (state g shown) P
abandoned g old begun last end shown P is one two same =
    subst (λ h. Survives (state g old) (state g h) P) same
    (survives_then (state g old) (state g last) (state g end) (λ _. ⊥) (λ _. ⊥) P (λ _ db none. absurd none) (λ _ db none. absurd none)
    (survives_begin g old (state g last) (λ _. ⊥) (subst (λ h. Survives (state g h) (state g last) (λ _. ⊥)) is one)) two)

pub returns-clause-ok : goal.returns-clause-ok
returns-clause-ok g c clean =
    let old = c.args.conn.now in
    let last = c.write.new.tx.conn.now in
    let end = c.end.new.tx.0 in
    let begun = c.transaction-tx.ensures.begun in
    let W = Wrote g.C.Coder.reading c.args.puts c.args.numbers.now c.args.snapshot.now c.args.votes.now (state g.S.Store old).now in
    let same : end ≡ c.conn-2-1.given.0 = search rules in
    let late : HasCleanDisk (state g.S.Store end) = search rules in
    let early : HasCleanDisk (state g.S.Store last) = omega (arith, c.end.ensures.survives.clean) in
    let was_open : IsTrue (state g.S.Store old).is_open = rw begun at ((c.in_ok-write.ensures.goes early (rw begun)).1 tt) in
    let wrote : W (state g.S.Store last).now = rw begun at (c.in_ok-write.ensures.put early (rw begun)) in
    on_ok_weaker c.end.result
    (λ (ended : Shows (state g.S.Store last) (state g.S.Store end) (state g.S.Store last).now (state g.S.Store last).now false).
    subst (λ h. IsTrue (state g.S.Store old).is_open × IsTrue (state g.S.Store h).is_open × W (state g.S.Store h).committed) same
    (was_open, ended.is_open, subst W (sym ended.committed_is) wrote))
    (c.end.ensures.ok late)

pub returns-clause-crash : goal.returns-clause-crash
returns-clause-crash g c =
    let old = c.args.conn.now in
    let last = c.write.new.tx.conn.now in
    let begun = c.transaction-tx.ensures.begun in
    let W = Wrote g.C.Coder.reading c.args.puts c.args.numbers.now c.args.snapshot.now c.args.votes.now (state g.S.Store old).now in
    let P = λ (trees : Trees). IsTrue (state g.S.Store old).is_open × ((db : Database) × W db × (trees ≡ db.trees)) in
    let was_open = λ (early : HasCleanDisk (state g.S.Store last)). let it : IsTrue (state g.S.Store old).is_open = rw begun at ((c.in_ok-write.ensures.goes early (rw begun)).1 tt) in it in
    let wrote = λ (early : HasCleanDisk (state g.S.Store last)). let it : W (state g.S.Store last).now = rw begun at (c.in_ok-write.ensures.put early (rw begun)) in it in
    let whole = survives_then (state g.S.Store old) (state g.S.Store last) (state g.S.Store c.end.new.tx.0) (λ _. ⊥) _ P (λ _ db none. absurd none)
    (λ clean db is. (was_open (omega (arith, c.end.ensures.survives.clean)), (_, wrote (omega (arith, c.end.ensures.survives.clean)), is)))
    (survives_begin g.S.Store old (state g.S.Store last) (λ _. ⊥) (rw begun at c.write.ensures.survives)) c.end.ensures.survives in
    let same : c.end.new.tx.0 ≡ c.conn-2-1.given.0 = search rules in
    subst (λ h. Survives (state g.S.Store old) (state g.S.Store h) P) same whole

pub returns-clause-refused : goal.returns-clause-refused
returns-clause-refused g c = refuses_conn_err (are_spelled g.C.Coder.spelling c.args.votes.now ≡ false) c.end.result c.end.ensures.fault

pub returns-clause-kept : goal.returns-clause-kept
returns-clause-kept g c damaged = conn_whole_err c.end.result c.end.ensures.fault damaged

pub returns-clause-below : goal.returns-clause-below
returns-clause-below g c = below_conn_err c.end.result c.end.ensures.fault

pub returns-clause-spelled : goal.returns-clause-spelled
returns-clause-spelled g c = where_ok c.end.result c.in_ok-write.ensures.spelled

pub returns-in_err-write-clause-crash : goal.returns-in_err-write-clause-crash
returns-in_err-write-clause-crash g c =
    let W = Wrote g.C.Coder.reading c.args.puts c.args.numbers.now c.args.snapshot.now c.args.votes.now (state g.S.Store c.args.conn.now).now in
    abandoned g.S.Store c.args.conn.now c.transaction-tx.result.conn.now c.write.new.tx.conn.now c.drop-tx.new.self.0 c.conn-1.given.0
    (λ (trees : Trees). IsTrue (state g.S.Store c.args.conn.now).is_open × ((db : Database) × W db × (trees ≡ db.trees)))
    c.transaction-tx.ensures.begun c.write.ensures.survives c.drop-tx.ensures.survives (search rules)

pub returns-in_err-write-clause-kept : goal.returns-in_err-write-clause-kept
returns-in_err-write-clause-kept g c damaged =
    abandoned g.S.Store c.args.conn.now c.transaction-tx.result.conn.now c.write.new.tx.conn.now c.drop-tx.new.self.0 c.conn-1.given.0 (λ _. ⊥)
    c.transaction-tx.ensures.begun c.write.ensures.survives c.drop-tx.ensures.survives (search rules)
