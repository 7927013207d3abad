use Rattle.sqlite.specs.Held.{state}
use Rattle.acceptor_store.proofs.Calling.{founded_left}
use Rattle.acceptor_store.proofs.calls.found_anew.Goals as goal

pub returns-clause-founded : goal.returns-clause-founded
returns-clause-founded g c clean =
    let done = c.in_ok-found_store.ensures.ok clean c.requires.nothing in
    founded_left g.C.Coder.reading (state g.S.Store c.found_store.new.conn) (c.settle.ensures.crash done.0) done.1
