use Rattle.std.proofs.Common.{inl, inr, ⊎_elim, sym, subst}
use Rattle.acceptor_store.specs.Store.{Holds, Finds}
use Rattle.acceptor_store.proofs.Calling.{found_or, rows_or}
use Rattle.acceptor_store.proofs.sql.SqlKeeperKeeper.boot.Goals as goal

pub returns-clause-right : goal.returns-clause-right
returns-clause-right g c clean rows holds =
    c.boot_from-booted.ensures.right clean rows (subst (λ k. Holds g.S.Store g.C.Coder.reading k rows) (sym c.self.view_is) holds)

pub returns-clause-last : goal.returns-clause-last
returns-clause-last g c clean rows holds spent =
    c.boot_from-booted.ensures.last clean rows (subst (λ k. Holds g.S.Store g.C.Coder.reading k rows) (sym c.self.view_is) holds) spent

pub returns-clause-found : goal.returns-clause-found
returns-clause-found g c rows holds x found =
    ⊎_elim (λ was. inl (subst (λ k. Finds g.S.Store g.C.Coder.reading k x) c.self.view_is was)) (λ next. inr next)
    (found_or g.S.Store g.C.Coder.reading _ c.boot_from-booted.new.session.conn _ (c.boot_from-booted.ensures.crash rows (subst (λ k. Holds g.S.Store g.C.Coder.reading k rows) (sym c.self.view_is) holds)) x found)

pub returns-clause-left : goal.returns-clause-left
returns-clause-left g c rows holds =
    let held = subst (λ k. Holds g.S.Store g.C.Coder.reading k rows) (sym c.self.view_is) holds in
    rows_or g.S.Store g.C.Coder.reading _ c.boot_from-booted.new.session.conn _ rows _ (c.boot_from-booted.ensures.crash rows held) held

pub returns-clause-sound : goal.returns-clause-sound
returns-clause-sound g c clean rows holds damaged =
    c.boot_from-booted.ensures.sound clean rows (subst (λ k. Holds g.S.Store g.C.Coder.reading k rows) (sym c.self.view_is) holds) (inl damaged)

pub returns-clause-current : goal.returns-clause-current
returns-clause-current g c clean rows holds version =
    c.boot_from-booted.ensures.sound clean rows (subst (λ k. Holds g.S.Store g.C.Coder.reading k rows) (sym c.self.view_is) holds) (inr version)
