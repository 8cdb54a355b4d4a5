use Rattle.race.proofs.race.run_race.Given as goal

abbrev pub ghosts-race_of-N-Ledger : goal.ghosts-race_of-N-Ledger
ghosts-race_of-N-Ledger g a = record { name = a.opening.ledger; parts = a.opening.parts }

abbrev pub ghosts-race_of-N-ClusterName : goal.ghosts-race_of-N-ClusterName
ghosts-race_of-N-ClusterName g a = record { shape = a.opening.shape; all = a.opening.parts }

abbrev pub ghosts-race_of-N-Naming : goal.ghosts-race_of-N-Naming
ghosts-race_of-N-Naming g a = record { table = a.opening.table }
