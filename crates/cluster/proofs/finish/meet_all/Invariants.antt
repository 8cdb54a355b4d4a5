use Rattle.std.proofs.Common.{◌≡◌, ℕ, ◌<◌, get_or}
use Rattle.cluster_tie.specs.Parts.{Own, of_host}
use Rattle.cluster.proofs.finish.meet_all.Given as goal

abbrev pub invariant-loop-seat : goal.invariant-loop-seat
invariant-loop-seat g l =
    (l.journal ≡ l.initial.journal) × (l.seats ≡ l.initial.seats) × ((k : ℕ) (d : Own) → k < l.seat-index → (get_or l.initial.seats k d).entries ≡ of_host (get_or l.initial.seats k d).number l.initial.journal.log)
