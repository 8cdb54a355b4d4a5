use Rattle.disk.specs.Filling.{filled}
use Rattle.world.specs.Entry.{Crashed}
use Rattle.cluster.proofs.harm.commit_crash.Given as goal

abbrev pub ghosts-commit_crash_as : goal.ghosts-commit_crash_as
ghosts-commit_crash_as g a = record { entry = Crashed a.book.now.own.number (filled a.given.now 0 a.book.now.disk.unsynced a.book.now.disk.bytes) }
