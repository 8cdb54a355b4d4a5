-- No variant is wrong.
use Rattle.std.proofs.Common.{◌≡◌, None, rules}
use Rattle.dlm_tasks.proofs.sweeping.print_sweep.Goals as goal

pub returns-in-Some-clause-refused : goal.returns-in-Some-clause-refused
returns-in-Some-clause-refused g c =
    let none : c.in_ok-swept.swept.first ≡ None = search rules in
    absurd (cc)
