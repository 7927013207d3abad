use Rattle.std.proofs.Common.{◌∙◌, ap, Err}
use Rattle.acceptor_store.proofs.Refusing.{refuses_told, told_damaged}
use Rattle.acceptor_store.proofs.calls.commit_to.Goals as goal

pub returns-in-Err-clause-refused : goal.returns-in-Err-clause-refused
returns-in-Err-clause-refused g c clean rows holds is_open =
    refuses_told _ c.in-Err.fault c.count_refusal.result (c.in-Err.ensures.refused clean rows holds is_open) c.count_refusal.ensures.fault

pub returns-in-Err-clause-kept : goal.returns-in-Err-clause-kept
returns-in-Err-clause-kept g c damaged = c.write.ensures.kept (c.in-Err.is ∙ ap Err (told_damaged c.in-Err.fault c.count_refusal.result c.count_refusal.ensures.fault damaged))
