use Rattle.at_once.proofs.Serving.{each_gave_alone, giving_serves, simulated_steps}
use Rattle.at_once.proofs.law.disks_serve_alone.Goals as goal

pub returns : goal.returns
returns g c = record {
  each = each_gave_alone g.D.Disk.gives;
  serves = giving_serves g.D.Disk.gives g.D.Disk.state;
  simulated = simulated_steps;
}
