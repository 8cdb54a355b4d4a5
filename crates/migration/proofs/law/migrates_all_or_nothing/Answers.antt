use Rattle.migration.specs.Run.{begun, all_after}
use Rattle.migration.proofs.Ending.{ends}
use Rattle.migration.proofs.Filling.{migrates}
use Rattle.migration.proofs.Fitting.{fits_images, length-schedule}
use Rattle.migration.proofs.Happening.{by_image, runs_migrate}
use Rattle.migration.proofs.Reading.{holds_log, holds_no_more, has_header}
use Rattle.migration.proofs.law.migrates_all_or_nothing.Goals as goal

pub returns : goal.returns
returns c = record {
  at_each_place = λ s es fits may. by_image s (all_after (begun s) es).disk fits (migrates s (fits_images s fits) es may);
  events = λ s events fits. runs_migrate s fits events;
  ends = ends;
  calls = length-schedule;
  log = holds_log;
  no_more = holds_no_more;
  header = has_header;
}
