use Rattle.agreement.proofs.TwoSlots.{is_history, finds_none, log_before, log_at_the_end}
use Rattle.agreement.proofs.log_of_two_slots.Goals as goal

pub returns-clause-is_history : goal.returns-clause-is_history
returns-clause-is_history c = is_history

pub returns-clause-empty : goal.returns-clause-empty
returns-clause-empty c = finds_none

pub returns-clause-before : goal.returns-clause-before
returns-clause-before c = log_before

pub returns-clause-log : goal.returns-clause-log
returns-clause-log c = log_at_the_end
