use Rattle.epoch_images.proofs.Doing.{rests_at_first}
use Rattle.epoch_images.proofs.epoch_disk_host.EpochDiskHost.start.Goals as goal

pub invariant_of-result : goal.invariant_of-result
invariant_of-result g c =
    rests_at_first (λ d. (g.D.Disk.device d).size) c.args.config c.args.host (record { host = c.new.result; disks = c.args.disks.items; firsts = c.args.firsts }) c.new.ensures.leads c.new.ensures.idle c.new.ensures.of.1
    c.requires.as_many c.requires.large
