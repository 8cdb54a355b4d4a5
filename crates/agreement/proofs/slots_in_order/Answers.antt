use Rattle.agreement.proofs.Slots.{holds_all_reached}
use Rattle.agreement.proofs.slots_in_order.Goals as goal

pub returns : goal.returns
returns g c = λ disks ms is_history. (holds_all_reached disks ms is_history).order
