use Rattle.attempt_safety.proofs.Choosing.{committed, chosen, proposed}
use Rattle.attempt_safety.proofs.law.what_is_chosen.Goals as goal

pub returns : goal.returns
returns c = record {
  committed = committed;
  chosen = chosen;
  proposed = proposed;
}
