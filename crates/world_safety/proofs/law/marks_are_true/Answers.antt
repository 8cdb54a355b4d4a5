use Rattle.world_safety.proofs.Claims.Marked.{marks_chosen, decides_chosen, looks_chosen}
use Rattle.world_safety.proofs.law.marks_are_true.Goals as goal

pub returns : goal.returns
returns c = record {
  blocks = λ shape log run. marks_chosen shape log run;
  decided = λ shape log run. decides_chosen shape log run;
  looked = λ shape log run. looks_chosen shape log run;
}
