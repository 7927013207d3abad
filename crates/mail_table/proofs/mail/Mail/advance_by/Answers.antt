use Rattle.std.proofs.Common.{rules}
use Rattle.mail_table.proofs.mail.Mail.advance_by.Goals as goal

pub invariant_of-seat : goal.invariant_of-seat
invariant_of-seat g c = search rules

pub returns-clause-moved : goal.returns-clause-moved
returns-clause-moved g c = search rules

pub advance_by_as-requires-clause-word : goal.advance_by_as-requires-clause-word
advance_by_as-requires-clause-word g c = search rules
