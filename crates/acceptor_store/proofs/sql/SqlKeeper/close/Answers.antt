use Rattle.std.proofs.Common.{sym, subst}
use Rattle.std.specs.Prelude.{IsTrue}
use Rattle.sqlite.specs.Held.{state}
use Rattle.sqlite.specs.State.{HasCleanDisk}
use Rattle.acceptor_store.specs.Store.{Finds, LeavesRows, Stores}
use Rattle.acceptor_store.proofs.sql.SqlKeeper.close.Goals as goal

pub returns-clause-left : goal.returns-clause-left
returns-clause-left g c clean is_open left =
    let same = c.into_connection.ensures.same in
    let is_clean = subst (λ k. HasCleanDisk (state g.S.Store k)) same clean in
    let stays = c.settle.ensures.stays (subst (λ k. IsTrue (state g.S.Store k).is_open) same is_open) in
    let it = subst (LeavesRows g.S.Store g.C.Coder.reading) (sym c.self.view_is) left is_clean _ stays in (
      it.0,
      subst (λ k. Finds g.S.Store g.C.Coder.reading k it.0) c.self.view_is (is_clean, (_, stays, it.1)),
      subst (λ k. Stores g.C.Coder.reading (state g.S.Store k).committed.trees it.0) (sym same) it.1,
    )
