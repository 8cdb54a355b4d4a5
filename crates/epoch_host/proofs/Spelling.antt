-- A command whose numbers are in their ranges is what its spelling reads as.
use Rattle.std.specs.Prelude.{if◌then◌else◌}
use Rattle.std.proofs.Common.{◌≡◌, Bool, true, false, Some, None, refl, ◌∙◌, ap}
use Rattle.std.proofs.lemmas.Slice.Eq.{bytes_eq-Decides}
use Rattle.lock_command.specs.declared.command.Command.{Command}
use Rattle.lock_command.specs.Command.{spelling, Fits}
use Rattle.lock_command.specs.Reading.{decoded, checked}
use Rattle.lock_command.proofs.Readings.{command_at-spelling}

checked_same : (c : Command) (b : Bool) → b ≡ true → (if b then Some c else None) ≡ Some c
checked_same c true is = refl
checked_same c false is = absurd (cc)

pub reads_back : (command : Command) → Fits command → decoded (spelling command) ≡ Some command
reads_back command fits =
    ap (checked (spelling command)) (command_at-spelling command fits) ∙ checked_same command _ ((bytes_eq-Decides (spelling command) (spelling command)).1 refl)
