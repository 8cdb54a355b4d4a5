use Rattle.agreement.proofs.Slots.{no_shorter}
use Rattle.agreement.proofs.no_shorter.Goals as goal

pub returns-clause-chosen : goal.returns-clause-chosen
returns-clause-chosen g c = λ disks n h early late is_history empty. (no_shorter disks early late n h is_history empty).0

pub returns-clause-learned : goal.returns-clause-learned
returns-clause-learned g c = λ disks n h early late is_history empty. (no_shorter disks early late n h is_history empty).1
