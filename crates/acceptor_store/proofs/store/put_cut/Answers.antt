use Rattle.std.proofs.Common.{arith}
use Rattle.std.proofs.lemmas.Result.{on_ok_weaker}
use Rattle.sqlite.specs.Held.{state}
use Rattle.sqlite.specs.State.{HasCleanDisk}
use Rattle.sqlite.proofs.StateLemmas.{survives_then}
use Rattle.paxos_packets.specs.Snapshot.{floor_in}
use Rattle.acceptor_store.proofs.Writing.{at_most_first, raised_floor, cut_reads, before_cut}
use Rattle.acceptor_store.proofs.store.put_cut.Goals as goal

pub returns-clause-put : goal.returns-clause-put
returns-clause-put g c clean inside rows has raises =
    let s = c.args.snapshot.now in
    let old = state g.S.Store c.args.tx.now.conn.now in
    let mid = state g.S.Store c.put_snapshot.new.tx.conn.now in
    let new = state g.S.Store c.forget_votes.new.tx.conn.now in
    let early : HasCleanDisk mid = omega (arith, c.forget_votes.ensures.survives.clean) in
    let begins = (raised_floor (floor_in rows.snapshot) s.floor s raises).2 in
    let put = rw (c.at-floor.ensures, c.floor.ensures, c.octets.ensures.octets) at
    (c.in_ok-put_snapshot.ensures.put early inside has.0 (at_most_first _ rows.snapshot has.1.has.snapshot)) in
    let going = c.in_ok-put_snapshot.ensures.shown early inside in
    on_ok_weaker c.forget_votes.result
    (λ left. cut_reads g.C.Coder.reading old.now mid.now new.now rows s has begins put (rw (c.at-floor.ensures, c.floor.ensures) at left))
    (c.forget_votes.ensures.left clean going.mode put.edits.schema rows.promised (floor_in rows.snapshot) rows.votes (before_cut g.C.Coder.reading old.now mid.now rows _ has put))

pub returns-clause-survives : goal.returns-clause-survives
returns-clause-survives g c =
    survives_then (state g.S.Store c.args.tx.now.conn.now) (state g.S.Store c.put_snapshot.new.tx.conn.now) (state g.S.Store c.forget_votes.new.tx.conn.now) (λ _. ⊥) (λ _. ⊥)
    (λ _. ⊥) (λ _ db none. none) (λ _ db none. none) c.put_snapshot.ensures.survives c.forget_votes.ensures.survives
