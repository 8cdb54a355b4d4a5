use Rattle.attempt.specs.Answers.{on}
use Rattle.rounds.proofs.Look.Histories as histories
use Rattle.rounds.proofs.Look.Ends.{one_is_enough}
use Rattle.rounds.proofs.looks.law.two_calls_a_disk.Goals as goal

pub returns-clause-bound : goal.returns-clause-bound
returns-clause-bound c = λ s heard first is. histories.bound s first heard is

pub returns-clause-going : goal.returns-clause-going
returns-clause-going c = λ s heard d first is due. histories.going s first heard d is due

pub returns-clause-due : goal.returns-clause-due
returns-clause-due c = λ s heard d first due. ((histories.due_is s (on heard) d first due).below, histories.has_call s (on heard) d due)

pub returns-clause-one : goal.returns-clause-one
returns-clause-one c = λ s boot row value first mark. one_is_enough s boot row value first mark
