use Rattle.world.specs.Entry.{Start, Stop}
use Rattle.cluster.proofs.journal.Journal.restart.Given as goal

abbrev pub ghosts-restart_as-S-TiedEntry : goal.ghosts-restart_as-S-TiedEntry
ghosts-restart_as-S-TiedEntry g a = record { entry = Stop a.seat.now.number }

abbrev pub ghosts-restart_as-T-TiedEntry : goal.ghosts-restart_as-T-TiedEntry
ghosts-restart_as-T-TiedEntry g a = record { entry = Start a.seat.now.number }
