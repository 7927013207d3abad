use Rattle.std.specs.Prelude.{is_some}
use Rattle.std.proofs.Common.{false, ◌≡◌, ◌<◌, ◌≤◌, ◌^◌, Ok, rules, sym, subst}
use Rattle.std.specs.Prelude.{Err, IfErr}
use Rattle.std.proofs.lemmas.Bool.{and_parts, ltb-true}
use Rattle.std.proofs.lemmas.Result.{on_ok_weaker}
use Rattle.sqlite.specs.Held.{state}
use Rattle.paxos_packets.specs.Snapshot.{floor_in}
use Rattle.command_codec.specs.Entry.{entry_reading}
use Rattle.acceptor_store.specs.Tables.{vote_row}
use Rattle.acceptor_store.specs.Store.{IsVote}
use Rattle.acceptor_store.proofs.Writing.{vote_read, vote_reads}
use Rattle.command_codec.specs.Entry.{entry_spelling}
use Rattle.acceptor_store.specs.Answers.{Refuses}
use Rattle.store_rows.specs.Faults.{LiesBelow}
use Rattle.acceptor_store.proofs.Refusing.{refuses_conn_err, refuses_unspelled, below_unspelled}
use Rattle.acceptor_store.proofs.store.write_vote.Goals as goal

pub returns-clause-put : goal.returns-clause-put
returns-clause-put g c clean inside rows has placed =
    let v = c.args.vote.now in
    let octets = c.as_slice.result.now in
    let parts = and_parts _ _ placed in
    let under = and_parts _ _ parts.1 in
    let least : 1 ≤ v.slot = rw c.get.ensures.value at c.get.ensures.least in
    let most : v.slot < 2 ^ 40 = rw c.get.ensures.value at c.get.ensures.most in
    let read : entry_reading g.C.Coder.reading octets ≡ Ok v.entry = rw c.as_slice.ensures.value c.in_ok-spell.ensures.read in
    let is : IsVote g.C.Coder.reading (vote_row c.get.result v.ballot.round v.ballot.node octets) v =
    rw c.get.ensures.value (vote_read g.C.Coder.reading v octets least most parts.0 read) in
    on_ok_weaker c.put_vote.result (vote_reads g.C.Coder.reading (state g.S.Store c.args.tx.now.conn.now).now (state g.S.Store c.put_vote.new.tx.conn.now).now rows v has)
    (c.put_vote.ensures.put clean inside has.0 rows.promised (floor_in rows.snapshot) rows.votes v has.1.has.votes is under.0
    (ltb-true (floor_in rows.snapshot) v.slot under.1))

pub returns-clause-refused : goal.returns-clause-refused
returns-clause-refused g c = refuses_conn_err (is_some (entry_spelling g.C.Coder.spelling c.args.vote.now.entry) ≡ false) c.put_vote.result c.put_vote.ensures.fault

pub returns-in_err-spell-clause-refused : goal.returns-in_err-spell-clause-refused
returns-in_err-spell-clause-refused g c =
    let spelled = entry_spelling g.C.Coder.spelling c.args.vote.now.entry in
    let given : c.from_residual.result ≡ Err c.in_err-spell.field-0.0 = search rules in
    subst (λ r. IfErr r (Refuses (is_some spelled ≡ false))) (sym given) (refuses_unspelled spelled c.in_err-spell.field-0.0 c.in_err-spell.ensures.fault)

pub returns-in_err-spell-clause-below : goal.returns-in_err-spell-clause-below
returns-in_err-spell-clause-below g c =
    let given : c.from_residual.result ≡ Err c.in_err-spell.field-0.0 = search rules in
    subst (λ r. IfErr r LiesBelow) (sym given) (below_unspelled c.in_err-spell.field-0.0 c.in_err-spell.ensures.fault)
