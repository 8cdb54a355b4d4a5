use Rattle.world_marks.proofs.Finding.{attempts_find, looks_see, looks_find, looks_find_migrated}
use Rattle.world_marks.proofs.law.marks_are_found.Goals as goal

pub returns : goal.returns
returns c = record {
  attempts = attempts_find;
  seen = looks_see;
  looks = looks_find;
  migrated = looks_find_migrated;
}
