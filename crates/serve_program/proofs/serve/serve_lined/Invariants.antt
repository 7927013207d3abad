use Rattle.serve_program.proofs.serve.serve_lined.Given as goal

-- the cluster's table is the one that was founded
abbrev pub ghosts-run_cluster : goal.ghosts-run_cluster
ghosts-run_cluster g a = record { table = a.founded.mail.now }
