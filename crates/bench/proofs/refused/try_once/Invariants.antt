use Rattle.bench.proofs.refused.try_once.Given as goal

abbrev pub ghosts-entries_of-N-Ledger : goal.ghosts-entries_of-N-Ledger
ghosts-entries_of-N-Ledger g a = record { name = a.opening.ledger; parts = a.opening.parts }

abbrev pub ghosts-entries_of-N-ClusterName : goal.ghosts-entries_of-N-ClusterName
ghosts-entries_of-N-ClusterName g a = record { shape = a.opening.shape; all = a.opening.parts }

abbrev pub ghosts-entries_of-N-Naming : goal.ghosts-entries_of-N-Naming
ghosts-entries_of-N-Naming g a = record { table = a.opening.table }
