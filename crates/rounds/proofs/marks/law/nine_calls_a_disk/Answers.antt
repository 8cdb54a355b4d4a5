use Rattle.attempt.specs.Answers.{on}
use Rattle.rounds.proofs.Marking.Histories as histories
use Rattle.rounds.proofs.marks.law.nine_calls_a_disk.Goals as goal

pub returns-clause-bound : goal.returns-clause-bound
returns-clause-bound c = histories.bound

pub returns-clause-going : goal.returns-clause-going
returns-clause-going c = λ s heard d is due. histories.going s heard d is due

pub returns-clause-due : goal.returns-clause-due
returns-clause-due c = λ s heard d due. ((histories.due_is s (on heard) d due).below, histories.has_call s (on heard) d due)
