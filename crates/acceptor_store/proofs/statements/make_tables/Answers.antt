use Rattle.std.proofs.Common.{arith}
use Rattle.std.proofs.lemmas.Result.{on_ok_weaker}
use Rattle.sqlite.specs.Held.{state}
use Rattle.sqlite.specs.State.{HasCleanDisk}
use Rattle.acceptor_store.proofs.Founding.{snapshot_free, meta_free, founded}
use Rattle.acceptor_store.proofs.statements.make_tables.Goals as goal

pub returns-clause-founded : goal.returns-clause-founded
returns-clause-founded g c clean inside none =
    let one = state g.S.Store c.create_meta.new.tx.conn.now in
    let two = state g.S.Store c.create_vote.new.tx.conn.now in
    let three = state g.S.Store c.create_snapshot.new.tx.conn.now in
    let four = state g.S.Store c.put_snapshot.new.tx.conn.now in
    let new = state g.S.Store c.put_meta.new.tx.conn.now in
    let fourth_clean : HasCleanDisk four = omega (arith, c.put_meta.ensures.survives.clean) in
    let third_clean : HasCleanDisk three = omega (arith, c.put_snapshot.ensures.survives.clean, fourth_clean) in
    let middle : HasCleanDisk two = omega (arith, c.create_snapshot.ensures.survives.clean, third_clean) in
    let early : HasCleanDisk one = omega (arith, c.create_vote.ensures.survives.clean, middle) in
    let meta = c.in_ok-create_meta.ensures.made early inside none in
    let first = c.in_ok-create_meta.ensures.shown early inside in
    let vote = c.in_ok-create_vote.ensures.made middle first.mode meta.schema in
    let second = c.in_ok-create_vote.ensures.shown middle first.mode in
    let snapshot = c.in_ok-create_snapshot.ensures.made third_clean second.mode vote.schema in
    let third = c.in_ok-create_snapshot.ensures.shown third_clean second.mode in
    let kept = rw c.none.ensures at (c.in_ok-put_snapshot.ensures.put fourth_clean third.mode snapshot.schema (snapshot_free two.now three.now snapshot)) in
    let fourth = c.in_ok-put_snapshot.ensures.shown fourth_clean third.mode in
    on_ok_weaker c.put_meta.result (λ put. founded one.now two.now three.now four.now new.now vote snapshot kept put)
    (c.put_meta.ensures.put clean fourth.mode kept.edits.schema (meta_free one.now two.now three.now four.now meta.empty vote snapshot kept))
