-- What a sweep of a script over a log of either kind prints.
use Rattle.std.specs.Prelude.{◌≡◌, ℕ, List, Option}
use Rattle.std.specs.Io.KnownBytes.{Appends}
use Rattle.lock_script.specs.Lines.{lines_of}
use Rattle.epoch_script.specs.declared.any_script.AnyScript.{AnyScript}
use Rattle.epoch_script.specs.declared.any_script.AnyScript.TheVariants.{Ending, Endless}
use Rattle.epoch_script.specs.declared.any_script.EpochScript.{EpochScript}
use Rattle.epoch_script.specs.Scripts.{IsAnyScript}
use Rattle.epoch_sweep.specs.declared.tally.Sweep.{Sweep}
use Rattle.epoch_sweep.specs.Counting.{IsSwept}
use Rattle.dlm_tasks.specs.Printed.{counts_text, sweep_text}

-- Each variant was run, and counted by how it ended, and the counts were written.
pub record WritesCounts (script : EpochScript) (swept : Sweep) (before after : Option (List ℕ)) : Type 0 where
  pub is : IsSwept script swept
  pub written : Appends before after (counts_text swept.runs swept.recovered swept.wrong)

-- so it was, and none was wrong
abbrev pub WritesEpochSweep : EpochScript → Option (List ℕ) → Option (List ℕ) → Type 0
WritesEpochSweep script before after = (swept : Sweep) × WritesCounts script swept before after × (swept.wrong ≡ 0)

abbrev pub WritesAnySweep : AnyScript → Option (List ℕ) → Option (List ℕ) → Type 0
WritesAnySweep (Ending script) before after = Appends before after (sweep_text script)
WritesAnySweep (Endless script) before after = WritesEpochSweep script before after

-- The bytes are a script, which was swept.
pub record WritesSweep (bytes : List ℕ) (before after : Option (List ℕ)) : Type 0 where
  pub script : AnyScript
  pub is_script : IsAnyScript (lines_of bytes) script
  pub written : WritesAnySweep script before after
