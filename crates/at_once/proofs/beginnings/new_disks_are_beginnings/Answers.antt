use Rattle.at_once.proofs.Clearing.{cleared_is_fresh, laid_out_is_blank, laid_out_says_header}
use Rattle.at_once.proofs.Moving.{makes_all_or_nothing, moved_holds_log, moved_is_whole, power_leaves_all_or_nothing}
use Rattle.at_once.proofs.beginnings.new_disks_are_beginnings.Goals as goal

pub returns : goal.returns
returns g c = record {
  laid = laid_out_is_blank g.D.Disk.gives g.D.Disk.state;
  headed = laid_out_says_header g.D.Disk.gives g.D.Disk.state;
  cleared = cleared_is_fresh g.D.Disk.gives g.D.Disk.state;
  moved = makes_all_or_nothing g.D.Disk.gives g.D.Disk.state;
  power = power_leaves_all_or_nothing g.D.Disk.gives g.D.Disk.state;
  whole = moved_is_whole g.D.Disk.gives g.D.Disk.state;
  held = moved_holds_log g.D.Disk.gives g.D.Disk.state;
}
