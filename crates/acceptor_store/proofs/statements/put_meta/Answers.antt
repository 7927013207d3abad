use Rattle.std.proofs.Common.{Ok, ◌<◌, ◌^◌, arith}
use Rattle.std.proofs.lemmas.Int.{to_z_pos}
use Rattle.std.specs.Int.{w64}
use Rattle.sqlite.specs.Held.{state}
use Rattle.sqlite.specs.State.{Executes}
use Rattle.acceptor_store.specs.Tables.{put_meta_text}
use Rattle.acceptor_store.specs.Statements.{round_of, node_of}
use Rattle.acceptor_store.proofs.Putting.{puts_meta, meta_params}
use Rattle.acceptor_store.proofs.Refusing.{below_conn}
use Rattle.acceptor_store.proofs.statements.put_meta.Goals as goal

pub returns-in-Ok-clause-put : goal.returns-in-Ok-clause-put
returns-in-Ok-clause-put g c clean inside has most =
    let old = state g.S.Store c.args.tx.now.conn.now in
    let new = state g.S.Store c.execute_put_meta.new.tx.conn.now in
    let round = round_of c.args.promised.now in
    let node = node_of c.args.promised.now in
    let ran = (c.in-Ok.ensures.runs clean inside).0 in
    let small : node < 2 ^ 63 = omega (arith, c.node_of.ensures.small, c.node_of.ensures.value) in
    let known : Executes put_meta_text (meta_params c.args.boot round node) old new (Ok c.in-Ok.field-0) =
    rw (c.signed.ensures, c.signed-round.ensures, c.signed-node.ensures, c.round_of.ensures, c.node_of.ensures.value, to_z_pos w64 c.args.boot c.requires.boot, to_z_pos w64 round c.requires.round, to_z_pos w64 node small) at ran in
    puts_meta old new c.args.boot round node (Ok c.in-Ok.field-0) has most known

pub returns-in-Err-clause-below : goal.returns-in-Err-clause-below
returns-in-Err-clause-below g c = below_conn c.fault_of.result c.fault_of.ensures
