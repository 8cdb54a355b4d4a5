use Rattle.rounds.proofs.Look.Ends.{decided_is, mark_read, no_mark_read, too_few}
use Rattle.rounds.proofs.looks.law.ends_are_shown.Goals as goal

pub returns-clause-decided : goal.returns-clause-decided
returns-clause-decided c = λ s f d value is. (let there = decided_is s f d value is in (there.0, mark_read (f d) value there.1))

pub returns-clause-unmarked : goal.returns-clause-unmarked
returns-clause-unmarked c = λ s f d is shows. no_mark_read (f d) shows

pub returns-clause-none : goal.returns-clause-none
returns-clause-none c = λ s heard first history is. too_few s heard first history is
