use Rattle.replacing.proofs.Steps.{put_makes_steps, showing_makes_steps}
use Rattle.replacing.proofs.Told.{rows_show_none_above}
use Rattle.replacing.proofs.law.replacements_are_steps.Goals as goal

pub returns : goal.returns
returns g c = record {
  shows = showing_makes_steps g.D.Disk.gives g.D.Disk.state;
  put = put_makes_steps g.D.Disk.gives g.D.Disk.state;
  rows = rows_show_none_above g.D.Disk.gives;
}
