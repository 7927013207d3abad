use Rattle.std.proofs.Common.{false, [], None, arith, rules, ap, sym, subst, ◌≡◌}
use Rattle.std.specs.Prelude.{Err, IfErr}
use Rattle.std.specs.Option.{option_or}
use Rattle.std.proofs.lemmas.Result.{on_ok_weaker}
use Rattle.sqlite.specs.State.{HasCleanDisk}
use Rattle.sqlite.specs.Held.{state}
use Rattle.sqlite.proofs.StateLemmas.{survives_then}
use Rattle.paxos_packets.specs.Rows.{kept_votes}
use Rattle.acceptor_store.specs.Store.{written}
use Rattle.acceptor_store.specs.Answers.{Refuses, are_spelled}
use Rattle.acceptor_store.proofs.Keeping.{went_on}
use Rattle.acceptor_store.proofs.Changing.{follows_cut, placed_cut}
use Rattle.acceptor_store.proofs.Refusing.{refuses_conn}
use Rattle.acceptor_store.proofs.store.write.Goals as goal

pub returns-clause-put : goal.returns-clause-put
returns-clause-put g c clean inside rows has follows placed =
    let snapshot = c.args.snapshot.now in
    let numbers = c.args.numbers.now in
    let middle : HasCleanDisk (state g.S.Store c.write_numbers.new.tx.conn.now) = omega (arith, c.write_votes.ensures.survives.clean) in
    let early : HasCleanDisk (state g.S.Store c.write_snapshot.new.tx.conn.now) = omega (arith, c.write_numbers.ensures.survives.clean, middle) in
    let cut = record rows { snapshot = option_or snapshot rows.snapshot; votes = kept_votes snapshot rows.votes } in
    let one = c.in_ok-write_snapshot.ensures.put early inside rows has numbers.floor follows.floor in
    let first = c.in_ok-write_snapshot.ensures.goes early inside in
    let two = c.in_ok-write_numbers.ensures.put middle first.0 cut one (follows_cut c.args.puts rows numbers snapshot follows) in
    c.write_votes.ensures.put clean (c.in_ok-write_numbers.ensures.goes middle first.0).0 (written numbers None [] cut) two
    (placed_cut rows numbers snapshot c.args.votes.now follows.floor placed)

pub returns-clause-goes : goal.returns-clause-goes
returns-clause-goes g c clean inside =
    let old = state g.S.Store c.args.tx.now.conn.now in
    let one = state g.S.Store c.write_snapshot.new.tx.conn.now in
    let two = state g.S.Store c.write_numbers.new.tx.conn.now in
    let new = state g.S.Store c.write_votes.new.tx.conn.now in
    let middle : HasCleanDisk two = omega (arith, c.write_votes.ensures.survives.clean) in
    let early : HasCleanDisk one = omega (arith, c.write_numbers.ensures.survives.clean, middle) in
    let first = c.in_ok-write_snapshot.ensures.goes early inside in
    let second = c.in_ok-write_numbers.ensures.goes middle first.0 in
    on_ok_weaker c.write_votes.result
    (λ third. went_on c.args.snapshot.now c.args.puts old one two new c.requires.something first second third
    (λ e. ap (state g.S.Store) (c.write_snapshot.ensures.idle e)) (λ e. ap (state g.S.Store) (c.write_numbers.ensures.idle e)))
    (c.write_votes.ensures.goes clean second.0)

pub returns-clause-survives : goal.returns-clause-survives
returns-clause-survives g c =
    survives_then (state g.S.Store c.args.tx.now.conn.now) (state g.S.Store c.write_numbers.new.tx.conn.now) (state g.S.Store c.write_votes.new.tx.conn.now) (λ _. ⊥) (λ _. ⊥)
    (λ _. ⊥) (λ _ db none. none) (λ _ db none. none)
    (survives_then (state g.S.Store c.args.tx.now.conn.now) (state g.S.Store c.write_snapshot.new.tx.conn.now) (state g.S.Store c.write_numbers.new.tx.conn.now) (λ _. ⊥) (λ _. ⊥)
    (λ _. ⊥) (λ _ db none. none) (λ _ db none. none) c.write_snapshot.ensures.survives c.write_numbers.ensures.survives)
    c.write_votes.ensures.survives

pub returns-in_err-write_numbers-clause-survives : goal.returns-in_err-write_numbers-clause-survives
returns-in_err-write_numbers-clause-survives g c =
    survives_then (state g.S.Store c.args.tx.now.conn.now) (state g.S.Store c.write_snapshot.new.tx.conn.now) (state g.S.Store c.write_numbers.new.tx.conn.now) (λ _. ⊥) (λ _. ⊥)
    (λ _. ⊥) (λ _ db none. none) (λ _ db none. none) c.write_snapshot.ensures.survives c.write_numbers.ensures.survives

pub returns-in_err-write_snapshot-clause-refused : goal.returns-in_err-write_snapshot-clause-refused
returns-in_err-write_snapshot-clause-refused g c =
    let given : c.from_residual.result ≡ Err c.in_err-write_snapshot.field-0.0 = search rules in
    subst (λ r. IfErr r (Refuses (are_spelled g.C.Coder.spelling c.args.votes.now ≡ false))) (sym given)
    (refuses_conn (are_spelled g.C.Coder.spelling c.args.votes.now ≡ false) c.in_err-write_snapshot.field-0.0 c.in_err-write_snapshot.ensures.fault)

pub returns-in_err-write_numbers-clause-refused : goal.returns-in_err-write_numbers-clause-refused
returns-in_err-write_numbers-clause-refused g c =
    let given : c.from_residual-in_err-write_numbers.result ≡ Err c.in_err-write_numbers.field-0.0 = search rules in
    subst (λ r. IfErr r (Refuses (are_spelled g.C.Coder.spelling c.args.votes.now ≡ false))) (sym given)
    (refuses_conn (are_spelled g.C.Coder.spelling c.args.votes.now ≡ false) c.in_err-write_numbers.field-0.0 c.in_err-write_numbers.ensures.fault)
