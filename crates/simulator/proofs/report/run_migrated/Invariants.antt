use Rattle.simulator.proofs.Listing.{HasListed}
use Rattle.simulator.proofs.report.run_migrated.Given as goal

abbrev pub invariant-loop-place : goal.invariant-loop-place
invariant-loop-place l = HasListed (record { shape = l.fn.config; moved = l.fn.log }) l.events l.place l.cluster l.answers.items
