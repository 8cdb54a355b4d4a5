use Rattle.world.proofs.Projections.{disk_here, disk_there, host_here, host_there}
use Rattle.world.proofs.law.changes_its_own.Goals as goal

pub returns : goal.returns
returns c = record {
  disk = disk_here;
  other_disks = disk_there;
  host = host_here;
  other_hosts = host_there;
}
