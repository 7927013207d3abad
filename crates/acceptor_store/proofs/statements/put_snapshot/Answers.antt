use Rattle.std.proofs.Common.{Ok, ◌<◌, ◌^◌, arith}
use Rattle.std.proofs.lemmas.Int.{to_z_pos}
use Rattle.std.specs.Int.{w64}
use Rattle.sqlite.specs.Held.{state}
use Rattle.sqlite.specs.State.{Executes}
use Rattle.acceptor_store.specs.Tables.{put_snapshot_text}
use Rattle.acceptor_store.proofs.Putting.{puts_snapshot, snapshot_params}
use Rattle.acceptor_store.proofs.Refusing.{below_conn}
use Rattle.acceptor_store.proofs.statements.put_snapshot.Goals as goal

pub returns-in-Ok-clause-put : goal.returns-in-Ok-clause-put
returns-in-Ok-clause-put g c clean inside has most =
    let old = state g.S.Store c.args.tx.now.conn.now in
    let new = state g.S.Store c.execute_put_snapshot.new.tx.conn.now in
    let ran = (c.in-Ok.ensures.runs clean inside).0 in
    let small : c.args.floor < 2 ^ 63 = omega (arith, c.get.ensures.most, c.get.ensures.value) in
    let known : Executes put_snapshot_text (snapshot_params c.args.floor c.args.octets.now) old new (Ok c.in-Ok.field-0) =
    rw (c.signed.ensures, c.get.ensures.value, to_z_pos w64 c.args.floor small) at ran in
    puts_snapshot old new c.args.floor c.args.octets.now (Ok c.in-Ok.field-0) has most known

pub returns-in-Err-clause-below : goal.returns-in-Err-clause-below
returns-in-Err-clause-below g c = below_conn c.fault_of.result c.fault_of.ensures
