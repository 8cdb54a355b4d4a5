use Rattle.world.specs.Entry.{Start}
use Rattle.cluster.proofs.journal.Journal.seat.Given as goal

abbrev pub ghosts-seat_as : goal.ghosts-seat_as
ghosts-seat_as g a = record { entry = Start a.host }
