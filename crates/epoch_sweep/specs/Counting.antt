-- How many variants of a script there are, and how they ended.
use Rattle.std.specs.Prelude.{◌≡◌, ◌+◌, Bool, not, List, length, filter, sum_by, position, Some, if◌then◌else◌}
use Rattle.std.specs.Option.{option_or}
use Rattle.epoch_script.specs.declared.any_script.EpochScript.{EpochScript}
use Rattle.epoch_sweep.specs.declared.tally.End.{End}
use Rattle.epoch_sweep.specs.declared.tally.Sweep.{Sweep}
use Rattle.epoch_sweep.specs.Sweeping.{HasSwept}

abbrev pub is_wrong : End → Bool
is_wrong end = not end.right

-- how many ends there are, how many recoveries answered, how many ends are wrong, and the first of these
abbrev pub counted : List End → Sweep
counted ends = record { runs = length ends; recovered = sum_by (λ (end : End). end.recovered) ends; wrong = length (filter is_wrong ends); first = position is_wrong ends }

-- one end more
abbrev pub with_end : Sweep → End → Sweep
with_end sweep end = record {
  runs = sweep.runs + 1;
  recovered = sweep.recovered + end.recovered;
  wrong = if end.right then sweep.wrong else sweep.wrong + 1;
  first = if end.right then sweep.first else option_or sweep.first (Some sweep.runs);
}

-- each variant of a script was run, and counted by how it ended
pub record IsSwept (script : EpochScript) (swept : Sweep) : Type 0 where
  pub ends : List End
  pub has : HasSwept script.config script.events ends
  pub counts : swept ≡ counted ends
