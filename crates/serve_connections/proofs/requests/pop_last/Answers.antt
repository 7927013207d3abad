use Rattle.std.proofs.Common.{◌∷◌, []}
use Rattle.serve_connections.proofs.Handing.{is_handed_later, is_handed_still}
use Rattle.serve_connections.proofs.requests.pop_last.Goals as goal

pub returns-in-Ok-Last-clause-handed : goal.returns-in-Ok-Last-clause-handed
returns-in-Ok-Last-clause-handed c ring is =
    is_handed_later ring c.args.handed.now c.pop.new.self (c.in-Ok-Last.field-0 ∷ []) c.in-Ok-Last.ensures.ok.0 is

pub returns-in-Ok-Ring-clause-handed : goal.returns-in-Ok-Ring-clause-handed
returns-in-Ok-Ring-clause-handed c ring is =
    is_handed_later ring c.args.handed.now c.pop.new.self (c.in-Ok-Ring.field-0 ∷ []) c.in-Ok-Ring.ensures.ok.0 is

pub returns-in-Err-clause-handed : goal.returns-in-Err-clause-handed
returns-in-Err-clause-handed c ring is = is_handed_still ring c.args.handed.now c.pop.new.self c.in-Err.ensures.empty.0 is
