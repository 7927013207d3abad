use Rattle.std.proofs.Common.{◌≡◌, ◌⊎◌, true, ap, sym, subst, ◌∙◌}
use Rattle.sqlite.specs.Held.{state}
use Rattle.paxos_packets.specs.Rows.{raised}
use Rattle.store_rows.specs.Numbers.{are_numbers, numbers_in_rows}
use Rattle.acceptor_store.specs.Store.{Leaves, Stores}
use Rattle.acceptor_store.proofs.Calling.{earlier, in_range, raises, leaves_none, leaves_then}
use Rattle.acceptor_store.proofs.calls.raise.Goals as goal

pub returns-clause-held : goal.returns-clause-held
returns-clause-held g c clean =
    let mid = c.read.new.session.conn in
    let new = c.put_numbers.new.conn in
    let rows = c.in_ok-rows.rows in
    let up : c.raise_boot.new.rows ≡ raised rows = c.in_ok-raise_boot.ensures.raised in
    let k = raises rows c.of-numbers.result (c.of-numbers.ensures ∙ ap numbers_in_rows up) in
    let left = (c.in_ok-rows.ensures.held (earlier g.S.Store mid new c.put_numbers.ensures.clean clean)).0 in
    let made = c.in_ok-put_numbers.ensures.ok clean rows left k.0 in
    (subst (Leaves g.C.Coder.reading (state g.S.Store new)) (k.1 ∙ sym up) made, c.of-numbers.ensures)

pub returns-clause-right : goal.returns-clause-right
returns-clause-right g c clean others holds =
    c.in_ok-raise_boot.ensures.raised
    ∙ ap raised (c.in_ok-rows.ensures.right (earlier g.S.Store c.read.new.session.conn c.put_numbers.new.conn c.put_numbers.ensures.clean clean) others holds)

pub put_numbers-requires-clause-numbers : goal.put_numbers-requires-clause-numbers
put_numbers-requires-clause-numbers g c =
    let known = in_range c.in_ok-rows.ensures.told c.read.new.session.in_range in
    subst (λ n. are_numbers n ≡ true) (sym c.of-numbers.ensures) (c.in_ok-raise_boot.ensures.numbers known)

pub returns-clause-crash : goal.returns-clause-crash
returns-clause-crash g c others holds =
    let mid = c.read.new.session.conn in
    let new = c.put_numbers.new.conn in
    let rows = c.in_ok-rows.rows in
    let k = raises rows c.of-numbers.result (c.of-numbers.ensures ∙ ap numbers_in_rows c.in_ok-raise_boot.ensures.raised) in
    leaves_then g.S.Store g.C.Coder.reading c.args.session.now.conn mid new (raised others) c.read.ensures.survives c.put_numbers.ensures.clean (λ clean trees may.
    let early = earlier g.S.Store mid new c.put_numbers.ensures.clean clean in
    subst (λ next. (state g.S.Store mid).may_leave trees ⊎ Stores g.C.Coder.reading trees next) (k.1 ∙ ap raised (c.in_ok-rows.ensures.right early others holds))
    (c.put_numbers.ensures.found clean rows (c.in_ok-rows.ensures.held early).0 k.0 trees may))

pub returns-in_err-put_numbers-clause-crash : goal.returns-in_err-put_numbers-clause-crash
returns-in_err-put_numbers-clause-crash g c others holds =
    let mid = c.read.new.session.conn in
    let new = c.put_numbers.new.conn in
    let rows = c.in_ok-rows.rows in
    let k = raises rows c.of-numbers.result (c.of-numbers.ensures ∙ ap numbers_in_rows c.in_ok-raise_boot.ensures.raised) in
    leaves_then g.S.Store g.C.Coder.reading c.args.session.now.conn mid new (raised others) c.read.ensures.survives c.put_numbers.ensures.clean (λ clean trees may.
    let early = earlier g.S.Store mid new c.put_numbers.ensures.clean clean in
    subst (λ next. (state g.S.Store mid).may_leave trees ⊎ Stores g.C.Coder.reading trees next) (k.1 ∙ ap raised (c.in_ok-rows.ensures.right early others holds))
    (c.put_numbers.ensures.found clean rows (c.in_ok-rows.ensures.held early).0 k.0 trees may))

pub returns-in_err-rows-clause-crash : goal.returns-in_err-rows-clause-crash
returns-in_err-rows-clause-crash g c others holds =
    leaves_none g.S.Store g.C.Coder.reading c.args.session.now.conn c.read.new.session.conn (raised others) c.read.ensures.survives

pub returns-in_err-raise_boot-clause-crash : goal.returns-in_err-raise_boot-clause-crash
returns-in_err-raise_boot-clause-crash g c others holds =
    leaves_none g.S.Store g.C.Coder.reading c.args.session.now.conn c.read.new.session.conn (raised others) c.read.ensures.survives
