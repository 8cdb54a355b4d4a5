use Rattle.bench.proofs.first_path.first_path.Given as goal

abbrev pub ghosts-submissions-N-Ledger : goal.ghosts-submissions-N-Ledger
ghosts-submissions-N-Ledger g a = record { name = a.opening.ledger; parts = a.opening.parts }

abbrev pub ghosts-submissions-N-ClusterName : goal.ghosts-submissions-N-ClusterName
ghosts-submissions-N-ClusterName g a = record { shape = a.opening.shape; all = a.opening.parts }

abbrev pub ghosts-submissions-N-Naming : goal.ghosts-submissions-N-Naming
ghosts-submissions-N-Naming g a = record { table = a.opening.table }
