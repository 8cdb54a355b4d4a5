use Rattle.agreement.proofs.PlacingAll.{are_placed}
use Rattle.agreement.proofs.values_can_be_placed.Goals as goal

pub returns : goal.returns
returns g c = λ disks values some. are_placed disks some values
