use Rattle.at_once.proofs.Calls.{cleared_file_is_fresh, files_make_all_or_nothing, laid_out_file_is_blank, laid_out_file_says_header, moved_files_are_whole, moved_files_hold_log, stopped_files_are_all_or_nothing}
use Rattle.at_once.proofs.beginnings.new_files_are_beginnings.Goals as goal

pub returns : goal.returns
returns g c = record {
  laid = laid_out_file_is_blank g.D.Disk.gives;
  headed = laid_out_file_says_header g.D.Disk.gives;
  cleared = cleared_file_is_fresh g.D.Disk.gives;
  moved = files_make_all_or_nothing g.D.Disk.gives;
  stopped = stopped_files_are_all_or_nothing g.D.Disk.gives;
  whole = moved_files_are_whole g.D.Disk.gives;
  held = moved_files_hold_log g.D.Disk.gives;
}
