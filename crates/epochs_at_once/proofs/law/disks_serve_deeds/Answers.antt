use Rattle.at_once.specs.Power.{LosesPower}
use Rattle.epochs.specs.Acts.{IsModelCrash}
use Rattle.epochs_at_once.proofs.Serving.{giving_serves}
use Rattle.epochs_at_once.proofs.law.disks_serve_deeds.Goals as goal

pub returns : goal.returns
returns g c = record {
  model = giving_serves IsModelCrash g.D.Disk.gives g.D.Disk.state;
  power = giving_serves LosesPower g.D.Disk.gives g.D.Disk.state;
}
