use Rattle.std.proofs.Common.{Ok, sym, subst, ◌<◌, ◌^◌, arith}
use Rattle.std.proofs.lemmas.Int.{to_z_pos}
use Rattle.std.specs.Int.{w64}
use Rattle.sqlite.specs.Held.{state}
use Rattle.sqlite.specs.State.{Executes}
use Rattle.paxos_packets.specs.Vote.{put_vote}
use Rattle.acceptor_store.specs.Tables.{vote_table, put_vote_text, vote_row}
use Rattle.acceptor_store.specs.Store.{AreVotes}
use Rattle.acceptor_store.proofs.Putting.{puts_vote, vote_params, votes_put}
use Rattle.acceptor_store.proofs.Refusing.{below_conn}
use Rattle.acceptor_store.proofs.statements.put_vote.Goals as goal

pub returns-in-Ok-clause-put : goal.returns-in-Ok-clause-put
returns-in-Ok-clause-put g c clean inside has promised floor votes v are is under above =
    let old = state g.S.Store c.args.tx.now.conn.now in
    let new = state g.S.Store c.execute_put_vote.new.tx.conn.now in
    let round = c.args.ballot.now.round in
    let node = c.args.ballot.now.node in
    let entry = c.args.entry.now in
    let ran = (c.in-Ok.ensures.runs clean inside).0 in
    let small : node < 2 ^ 63 = omega (arith, c.node_in.ensures.small, c.node_in.ensures.value) in
    let known : Executes put_vote_text (vote_params c.args.slot round node entry) old new (Ok c.in-Ok.field-0) =
    rw (c.signed.ensures, c.signed-round.ensures, c.signed-node.ensures, c.node_in.ensures.value, to_z_pos w64 c.args.slot c.requires.slot, to_z_pos w64 round c.requires.round, to_z_pos w64 node small) at ran in
    let put = puts_vote old new c.args.slot round node entry (Ok c.in-Ok.field-0) has known in (
      put.edits,
      subst (λ tree. AreVotes g.C.Coder.reading promised floor tree (put_vote v votes)) (sym put.rows)
          (votes_put g.C.Coder.reading promised floor (old.now.trees 1) votes are (vote_row c.args.slot round node entry) v is under above vote_table put.found put.conflict put.free),
    )

pub returns-in-Err-clause-below : goal.returns-in-Err-clause-below
returns-in-Err-clause-below g c = below_conn c.fault_of.result c.fault_of.ensures
