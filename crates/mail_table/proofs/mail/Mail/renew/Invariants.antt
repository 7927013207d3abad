use Rattle.mail_table.proofs.mail.Mail.renew.Given as goal

abbrev pub ghosts-renew_as : goal.ghosts-renew_as
ghosts-renew_as g a = record { rows = a.rows.now }
