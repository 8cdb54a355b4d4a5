use Rattle.std.proofs.Common.{Some, refl}
use Rattle.epoch_host.specs.declared.answer.EpochAnswer.TheVariants.{Marked}
use Rattle.epoch_images.specs.Working.{said_by}
use Rattle.epoch_images.proofs.Marking.{unmarked}
use Rattle.epoch_images.proofs.epoch_disk_host.EpochDiskHost.leaves_a_mark.Goals as goal

pub returns-in-Ok : goal.returns-in-Ok
returns-in-Ok g c = (Some (Marked c.in-Ok.count), c.in-Ok.ensures.counted, refl)

pub returns-in-Err : goal.returns-in-Err
returns-in-Err g c = (said_by c.in-Err.field-0, c.in-Err.ensures.refused, unmarked c.in-Err.field-0)
