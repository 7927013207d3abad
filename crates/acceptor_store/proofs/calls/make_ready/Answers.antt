use Rattle.std.proofs.Common.{◌≡◌, ◌∙◌, rules, sym}
use Rattle.sqlite.specs.Held.{state}
use Rattle.acceptor_store.specs.Tables.{empty_schema, old_schema}
use Rattle.acceptor_store.proofs.Keeping.{reads_left}
use Rattle.acceptor_store.proofs.Calling.{not_both, not_empty, is_old, is_new, readies_founded, readies_renewed}
use Rattle.acceptor_store.proofs.calls.make_ready.Goals as goal

pub returns-then-is_empty-clause-again : goal.returns-then-is_empty-clause-again
returns-then-is_empty-clause-again g c is_open rows stores =
    let none : c.args.conn.now.schema ≡ empty_schema = search rules in
    absurd (not_empty g.C.Coder.reading (state g.S.Store c.args.conn.now) rows c.settle.ensures.live (c.settle.ensures.settled c.requires is_open) is_open none stores)

pub returns-then-is_empty-clause-crash : goal.returns-then-is_empty-clause-crash
returns-then-is_empty-clause-crash g c =
    let none : c.args.conn.now.schema ≡ empty_schema = search rules in
    readies_founded g.C.Coder.reading (state g.S.Store c.args.conn.now) (state g.S.Store c.found_anew.new.conn) none c.found_anew.ensures.crash

pub returns-in-Ok-true-clause-founded : goal.returns-in-Ok-true-clause-founded
returns-in-Ok-true-clause-founded g c none =
    let is : c.args.conn.now.schema ≡ old_schema = search rules in
    absurd (not_both (sym none ∙ is))

pub returns-in-Ok-true-clause-again : goal.returns-in-Ok-true-clause-again
returns-in-Ok-true-clause-again g c is_open rows stores =
    let is : c.args.conn.now.schema ≡ old_schema = search rules in
    c.renew_where_old.ensures.renewed is_open rows
    (is_old g.C.Coder.reading (state g.S.Store c.args.conn.now) rows c.settle.ensures.live (c.settle.ensures.settled c.requires is_open) is_open is stores)

pub returns-in-Ok-true-clause-crash : goal.returns-in-Ok-true-clause-crash
returns-in-Ok-true-clause-crash g c =
    let is : c.args.conn.now.schema ≡ old_schema = search rules in
    readies_renewed g.C.Coder.reading (state g.S.Store c.args.conn.now) (state g.S.Store c.renew_where_old.new.conn) is c.renew_where_old.ensures.crash

pub returns-in-Ok-false-clause-again : goal.returns-in-Ok-false-clause-again
returns-in-Ok-false-clause-again g c is_open rows stores clean =
    let other : c.args.conn.now.schema ≡ old_schema → ⊥ = search rules in
    reads_left g.C.Coder.reading (state g.S.Store c.args.conn.now) rows (c.settle.ensures.crash is_open)
    (is_new g.C.Coder.reading (state g.S.Store c.args.conn.now) rows c.settle.ensures.live (c.settle.ensures.settled c.requires is_open) is_open other stores)
