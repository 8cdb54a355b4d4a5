use Rattle.lock_table.proofs.Carrying.{calm_after}
use Rattle.lock_table.proofs.laws.heads_could_not_be_granted.Goals as goal

pub returns : goal.returns
returns c = record { settled = λ renewals commands is. (calm_after renewals commands is).settled }
