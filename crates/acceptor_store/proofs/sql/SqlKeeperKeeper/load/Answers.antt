use Rattle.std.proofs.Common.{inl, inr, sym, subst}
use Rattle.std.specs.Prelude.{IfOk, IfErr}
use Rattle.sqlite.specs.Held.{state}
use Rattle.acceptor_store.specs.Store.{Holds, Finds, LeavesRows}
use Rattle.acceptor_store.specs.Answers.{Gives, Tells}
use Rattle.acceptor_store.proofs.Calling.{found_no_more, rows_on}
use Rattle.acceptor_store.proofs.sql.SqlKeeperKeeper.load.Goals as goal

pub returns-clause-right : goal.returns-clause-right
returns-clause-right g c clean rows holds =
    c.load_from.ensures.right clean rows (subst (λ k. Holds g.S.Store g.C.Coder.reading k rows) (sym c.self.view_is) holds)

pub returns-clause-same : goal.returns-clause-same
returns-clause-same g c rows holds = c.load_from.ensures.kept rows (subst (λ k. Holds g.S.Store g.C.Coder.reading k rows) (sym c.self.view_is) holds)

pub returns-clause-found : goal.returns-clause-found
returns-clause-found g c x found =
    subst (λ k. Finds g.S.Store g.C.Coder.reading k x) c.self.view_is (found_no_more g.S.Store g.C.Coder.reading c.self.inside.session.conn c.load_from.new.session.conn c.load_from.ensures.survives x found)

pub returns-clause-left : goal.returns-clause-left
returns-clause-left g c left =
    rows_on g.S.Store g.C.Coder.reading c.self.inside.session.conn c.load_from.new.session.conn c.load_from.ensures.survives (subst (LeavesRows g.S.Store g.C.Coder.reading) (sym c.self.view_is) left)

pub returns-clause-gives : goal.returns-clause-gives
returns-clause-gives g c clean =
    subst (λ k. IfOk c.load_from.result (Gives g.C.Coder.reading (state g.S.Store k.conn).now)) c.self.view_is (c.load_from.ensures.gives clean)

pub returns-clause-tells : goal.returns-clause-tells
returns-clause-tells g c clean =
    subst (λ k. IfErr c.load_from.result (Tells g.C.Coder.reading (state g.S.Store k.conn).now)) c.self.view_is (c.load_from.ensures.tells clean)

pub returns-clause-sound : goal.returns-clause-sound
returns-clause-sound g c clean rows holds damaged =
    c.load_from.ensures.sound clean rows (subst (λ k. Holds g.S.Store g.C.Coder.reading k rows) (sym c.self.view_is) holds) (inl damaged)

pub returns-clause-current : goal.returns-clause-current
returns-clause-current g c clean rows holds version =
    c.load_from.ensures.sound clean rows (subst (λ k. Holds g.S.Store g.C.Coder.reading k rows) (sym c.self.view_is) holds) (inr version)
