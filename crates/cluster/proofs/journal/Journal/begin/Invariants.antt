use Rattle.world.specs.Entry.{Begin}
use Rattle.cluster.proofs.journal.Journal.begin.Given as goal

abbrev pub ghosts-keep : goal.ghosts-keep
ghosts-keep g a = record { entry = Begin a.tie.now.number a.task.now }
