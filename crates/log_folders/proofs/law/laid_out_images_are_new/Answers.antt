use Rattle.std.proofs.Common.{refl}
use Rattle.log_folders.proofs.Beginnings.{finished_is_new, laid_out_is_new, open_stays}
use Rattle.log_folders.proofs.law.laid_out_images_are_new.Goals as goal

pub returns : goal.returns
returns g c = record {
  new = laid_out_is_new g.D.Disk.gives g.D.Disk.state;
  nothing = λ config cluster disk. refl;
  finished = finished_is_new g.D.Disk.gives g.D.Disk.state;
  stays = open_stays g.D.Disk.gives g.D.Disk.state;
}
