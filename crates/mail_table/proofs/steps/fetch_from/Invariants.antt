use Rattle.mail_table.proofs.steps.fetch_from.Given as goal

abbrev pub ghosts-empty_out : goal.ghosts-empty_out
ghosts-empty_out g a = record { most = a.table.now.shared.key.most }
