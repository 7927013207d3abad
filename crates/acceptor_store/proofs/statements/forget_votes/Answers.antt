use Rattle.std.proofs.Common.{Ok, pos, [], ◌∷◌, ◌<◌, ◌^◌, arith}
use Rattle.std.proofs.lemmas.Int.{to_z_pos}
use Rattle.std.specs.Int.{w64}
use Rattle.sqlite_value.specs.declared.value.Value.TheVariants.{Int}
use Rattle.sqlite.specs.Held.{state}
use Rattle.sqlite.specs.State.{Executes}
use Rattle.acceptor_store.specs.Tables.{delete_votes_text}
use Rattle.acceptor_store.proofs.Forgetting.{forgets_votes}
use Rattle.acceptor_store.proofs.Refusing.{below_conn}
use Rattle.acceptor_store.proofs.statements.forget_votes.Goals as goal

pub returns-in-Ok-clause-left : goal.returns-in-Ok-clause-left
returns-in-Ok-clause-left g c clean inside has promised low votes are =
    let old = state g.S.Store c.args.tx.now.conn.now in
    let new = state g.S.Store c.execute_delete_votes.new.tx.conn.now in
    let ran = (c.in-Ok.ensures.runs clean inside).0 in
    let small : c.args.floor < 2 ^ 63 = omega (arith, c.get.ensures.most, c.get.ensures.value) in
    let known : Executes delete_votes_text (Int (pos c.args.floor) ∷ []) old new (Ok c.in-Ok.field-0) =
    rw (c.signed.ensures, c.get.ensures.value, to_z_pos w64 c.args.floor small) at ran in
    forgets_votes g.C.Coder.reading old new c.args.floor low promised votes (Ok c.in-Ok.field-0) has are known

pub returns-in-Err-clause-below : goal.returns-in-Err-clause-below
returns-in-Err-clause-below g c = below_conn c.fault_of.result c.fault_of.ensures
