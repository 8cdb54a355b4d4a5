use Rattle.std.proofs.Common.{refl}
use Rattle.disk.proofs.CutLemmas.{cut_fresh, cut_steps, cut_crashes, crashes_cut, first_of_fresh, first_stay, first_stay_crashed}
use Rattle.disk.proofs.law.larger_disks_serve.Goals as goal

pub returns : goal.returns
returns c = record {
  fresh = cut_fresh;
  first = first_of_fresh;
  steps = λ n disk new call answer has within step.
      (cut_steps n disk new call answer has within step, first_stay n disk new call answer has within step);
  crashes = λ n disk given has. (cut_crashes n disk given has, crashes_cut n disk given has, first_stay_crashed n disk given has);
  losses = λ n disk. refl;
}
