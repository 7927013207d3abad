use Rattle.sqlite.specs.Held.{state}
use Rattle.acceptor_store.proofs.Telling.{tells_told}
use Rattle.acceptor_store.proofs.Refusing.{told_unfit}
use Rattle.acceptor_store.proofs.calls.load_from.Goals as goal

pub returns-in-Err-clause-tells : goal.returns-in-Err-clause-tells
returns-in-Err-clause-tells g c clean =
    tells_told g.C.Coder.reading (state g.S.Store c.args.session.now.conn).now c.in-Err.fault c.count_refusal.result (c.in-Err.ensures.tells clean) c.count_refusal.ensures.fault

pub returns-in-Err-clause-sound : goal.returns-in-Err-clause-sound
returns-in-Err-clause-sound g c clean rows holds unfit =
    c.in-Err.ensures.sound clean rows holds (told_unfit c.in-Err.fault c.count_refusal.result c.count_refusal.ensures.fault unfit)
