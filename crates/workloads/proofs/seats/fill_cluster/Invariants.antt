use Rattle.workloads.proofs.seats.fill_cluster.Given as goal

abbrev pub ghosts-fill_named-N-Ledger : goal.ghosts-fill_named-N-Ledger
ghosts-fill_named-N-Ledger g a = record { name = a.opening.ledger; parts = a.opening.parts }

abbrev pub ghosts-fill_named-N-ClusterName : goal.ghosts-fill_named-N-ClusterName
ghosts-fill_named-N-ClusterName g a = record { shape = a.opening.shape; all = a.opening.parts }

abbrev pub ghosts-fill_named-N-Naming : goal.ghosts-fill_named-N-Naming
ghosts-fill_named-N-Naming g a = record { table = a.opening.table }
