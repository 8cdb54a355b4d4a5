use Rattle.cluster.specs.Commit.{called_by}
use Rattle.cluster.proofs.commit.commit_step.Given as goal

abbrev pub ghosts-commit_as : goal.ghosts-commit_as
ghosts-commit_as g a = record { entry = called_by g.N.ClusterName.shape a.seat.now a.book.now a.touched.outcome }
