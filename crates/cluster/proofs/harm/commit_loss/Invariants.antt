use Rattle.world.specs.Entry.{Lost}
use Rattle.cluster.proofs.harm.commit_loss.Given as goal

abbrev pub ghosts-spend : goal.ghosts-spend
ghosts-spend g a = record { entry = Lost a.disk.now.number }
