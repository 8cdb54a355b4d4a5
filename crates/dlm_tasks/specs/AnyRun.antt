-- What a script over a log of either kind prints.
use Rattle.std.specs.Prelude.{◌≤◌, ℕ, List, length, Option}
use Rattle.lock_script.specs.Lines.{lines_of}
use Rattle.epoch_script.specs.declared.any_script.AnyScript.{AnyScript}
use Rattle.epoch_script.specs.declared.any_script.AnyScript.TheVariants.{Ending, Endless}
use Rattle.epoch_script.specs.Scripts.{IsAnyScript}
use Rattle.epoch_player.specs.Playing.{WritesPlay}
use Rattle.dlm_tasks.specs.Printed.{WritesScript}

-- the log that ends has a slot for each command that it begins with
abbrev pub HasRoom : AnyScript → Type 0
HasRoom (Ending script) = length script.log.items ≤ script.config.slots
HasRoom (Endless script) = Unit {0}

-- The script's events happened, and their text was written, with the tables that the script shows.
abbrev pub WritesAnyScript : AnyScript → Option (List ℕ) → Option (List ℕ) → Type 0
WritesAnyScript (Ending script) before after = WritesScript script before after
WritesAnyScript (Endless script) before after = WritesPlay script before after

-- The bytes are a script, which was run.
pub record WritesRun (bytes : List ℕ) (before after : Option (List ℕ)) : Type 0 where
  pub script : AnyScript
  pub is_script : IsAnyScript (lines_of bytes) script
  pub written : WritesAnyScript script before after
