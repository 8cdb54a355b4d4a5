use Rattle.agreement.specs.Log.{none_learned}
use Rattle.agreement.proofs.Slots.{slot_moves, allowed_moves}
use Rattle.agreement.proofs.slots_apart.Goals as goal

pub returns-clause-runs : goal.returns-clause-runs
returns-clause-runs g c = λ disks k ms. allowed_moves k disks none_learned ms

pub returns-clause-states : goal.returns-clause-states
returns-clause-states g c = λ k ms. slot_moves k none_learned ms
