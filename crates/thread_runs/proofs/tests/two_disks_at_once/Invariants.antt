use Rattle.thread_runs.proofs.tests.two_disks_at_once.Given as goal

abbrev pub ghosts-two_hosts_met-N-ClusterName : goal.ghosts-two_hosts_met-N-ClusterName
ghosts-two_hosts_met-N-ClusterName g a = record { shape = a.opening.shape; all = a.opening.parts }

abbrev pub ghosts-two_hosts_met-N-Naming : goal.ghosts-two_hosts_met-N-Naming
ghosts-two_hosts_met-N-Naming g a = record { table = a.opening.table }

abbrev pub ghosts-two_hosts_met-N-Ledger : goal.ghosts-two_hosts_met-N-Ledger
ghosts-two_hosts_met-N-Ledger g a = record { name = a.opening.ledger; parts = a.opening.parts }
