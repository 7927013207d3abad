use Rattle.std.proofs.Common.{◌≡◌, ◌∙◌, ◌⊎◌, [], None, List, true, sym, subst, OnOk}
use Rattle.std.specs.List.{AllByRecursion}
use Rattle.sqlite.specs.Held.{state}
use Rattle.paxos_packets.specs.declared.vote.Vote.{Vote}
use Rattle.acceptor_store.specs.Store.{Leaves, Stores, written}
use Rattle.store_rows.specs.Changes.{is_placed}
use Rattle.acceptor_store.proofs.calls.put_numbers.Goals as goal

pub returns-clause-ok : goal.returns-clause-ok
returns-clause-ok g c clean rows left follows =
    let none : c.as_slice.result.now ≡ [] = c.as_slice.ensures.votes ∙ c.new-none.ensures in
    let placed = subst (AllByRecursion (λ v. is_placed c.args.numbers.now.promised c.args.numbers.now.floor v ≡ true)) (sym none) tt in
    subst (λ (vs : List (Vote g.row.B.Denot)). OnOk c.commit_rows.result (Leaves g.C.Coder.reading (state g.S.Store c.commit_rows.new.conn) (written c.args.numbers.now None vs rows)))
    none (c.commit_rows.ensures.ok clean rows left follows placed)

pub returns-clause-found : goal.returns-clause-found
returns-clause-found g c clean rows left follows trees may =
    let none : c.as_slice.result.now ≡ [] = c.as_slice.ensures.votes ∙ c.new-none.ensures in
    let placed = subst (AllByRecursion (λ v. is_placed c.args.numbers.now.promised c.args.numbers.now.floor v ≡ true)) (sym none) tt in
    subst (λ (vs : List (Vote g.row.B.Denot)). (state g.S.Store c.args.conn.now).may_leave trees ⊎ Stores g.C.Coder.reading trees (written c.args.numbers.now None vs rows))
    none (c.commit_rows.ensures.found clean rows left follows placed trees may)
