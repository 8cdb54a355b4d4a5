use Rattle.thread_runs.proofs.tests.eight_hosts.Given as goal

abbrev pub ghosts-crowded-N-ClusterName : goal.ghosts-crowded-N-ClusterName
ghosts-crowded-N-ClusterName g a = record { shape = a.opening.shape; all = a.opening.parts }

abbrev pub ghosts-crowded-N-Naming : goal.ghosts-crowded-N-Naming
ghosts-crowded-N-Naming g a = record { table = a.opening.table }

abbrev pub ghosts-crowded-N-Ledger : goal.ghosts-crowded-N-Ledger
ghosts-crowded-N-Ledger g a = record { name = a.opening.ledger; parts = a.opening.parts }
