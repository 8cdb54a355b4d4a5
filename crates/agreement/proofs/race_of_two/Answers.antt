use Rattle.std.proofs.Common.{suc, refl, lit<}
use Rattle.agreement.specs.State.{HOSTS}
use Rattle.agreement.specs.Event.{state_after}
use Rattle.agreement.specs.Race.{race}
use Rattle.agreement.proofs.Runs.{holds_reached}
use Rattle.agreement.proofs.Agreeing.{commits_chosen, one_chosen}
use Rattle.agreement.proofs.Racing.{is_run}
use Rattle.agreement.proofs.race_of_two.Goals as goal

pub returns-clause-is_run : goal.returns-clause-is_run
returns-clause-is_run c = is_run

pub returns-clause-committed : goal.returns-clause-committed
returns-clause-committed c = record { proposing = refl; majority = lit< tt }

pub returns-clause-again : goal.returns-clause-again
returns-clause-again c = record { proposing = refl; majority = lit< tt }

pub returns-clause-once : goal.returns-clause-once
returns-clause-once c = λ v k.
    let i = holds_reached 3 race is_run in
    one_chosen 3 (state_after race) i 8 v (suc HOSTS, commits_chosen 3 (state_after race) i 0 (suc HOSTS) 8 (record { proposing = refl; majority = lit< tt })) k
