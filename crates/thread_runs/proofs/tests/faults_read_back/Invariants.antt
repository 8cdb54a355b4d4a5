use Rattle.thread_runs.proofs.tests.faults_read_back.Given as goal

abbrev pub ghosts-harm_read_back-N-ClusterName : goal.ghosts-harm_read_back-N-ClusterName
ghosts-harm_read_back-N-ClusterName g a = record { shape = a.opening.shape; all = a.opening.parts }

abbrev pub ghosts-harm_read_back-N-Naming : goal.ghosts-harm_read_back-N-Naming
ghosts-harm_read_back-N-Naming g a = record { table = a.opening.table }

abbrev pub ghosts-harm_read_back-N-Ledger : goal.ghosts-harm_read_back-N-Ledger
ghosts-harm_read_back-N-Ledger g a = record { name = a.opening.ledger; parts = a.opening.parts }
