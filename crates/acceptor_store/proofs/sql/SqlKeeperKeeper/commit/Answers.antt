use Rattle.std.proofs.Common.{inl, inr, ⊎_elim, sym, subst, IsTrue, rules}
use Rattle.std.proofs.lemmas.Result.{on_ok_weaker}
use Rattle.sqlite.specs.Held.{state}
use Rattle.acceptor_store.specs.Store.{Holds, Finds}
use Rattle.acceptor_store.proofs.Calling.{found_no_more, found_or, rows_or}
use Rattle.acceptor_store.proofs.sql.SqlKeeperKeeper.commit.Goals as goal

pub returns-clause-ok : goal.returns-clause-ok
returns-clause-ok g c =
    on_ok_weaker c.commit_to-done.result (λ made rows holds. made rows (subst (λ k. Holds g.S.Store g.C.Coder.reading k rows) (sym c.self.view_is) holds)) c.commit_to-done.ensures.ok

pub returns-clause-found : goal.returns-clause-found
returns-clause-found g c rows holds x found =
    ⊎_elim (λ was. inl (subst (λ k. Finds g.S.Store g.C.Coder.reading k x) c.self.view_is was)) (λ next. inr next)
    (found_or g.S.Store g.C.Coder.reading _ c.commit_to-done.new.session.conn _ (c.commit_to-done.ensures.crash rows (subst (λ k. Holds g.S.Store g.C.Coder.reading k rows) (sym c.self.view_is) holds)) x found)

pub returns-clause-left : goal.returns-clause-left
returns-clause-left g c rows holds =
    let held = subst (λ k. Holds g.S.Store g.C.Coder.reading k rows) (sym c.self.view_is) holds in
    rows_or g.S.Store g.C.Coder.reading _ c.commit_to-done.new.session.conn _ rows _ (c.commit_to-done.ensures.crash rows held) held

pub returns-clause-placed : goal.returns-clause-placed
returns-clause-placed g c clean rows holds =
    c.commit_to-done.ensures.placed clean rows (subst (λ k. Holds g.S.Store g.C.Coder.reading k rows) (sym c.self.view_is) holds)

pub returns-clause-refused : goal.returns-clause-refused
returns-clause-refused g c clean is_open rows holds =
    c.commit_to-done.ensures.refused clean rows (subst (λ k. Holds g.S.Store g.C.Coder.reading k rows) (sym c.self.view_is) holds)
    (subst (λ k. IsTrue (state g.S.Store k.conn).is_open) (sym c.self.view_is) is_open)

pub returns-clause-kept : goal.returns-clause-kept
returns-clause-kept g c damaged x found = subst (λ k. Finds g.S.Store g.C.Coder.reading k x) c.self.view_is (found_no_more g.S.Store g.C.Coder.reading c.self.inside.session.conn c.commit_to-done.new.session.conn (c.commit_to-done.ensures.kept damaged) x found)

pub returns-clause-fails : goal.returns-clause-fails
returns-clause-fails g c = search rules
