use Rattle.std.proofs.Common.{rules}
use Rattle.mail_table.proofs.mail.Mail.fetch_all.Goals as goal

pub returns-clause-fetched : goal.returns-clause-fetched
returns-clause-fetched g c = search rules
