-- Why nothing of the lock table is shown, where memory was refused.
use Rattle.std.specs.Prelude.{IfErr, Result, Ok, Err}
use Rattle.std.specs.Result.{IsErrAnd}
use Rattle.std.proofs.Common.{◌≡◌, List, sym, subst}
use Rattle.lock_command.specs.declared.command.Command.{Command}
use Rattle.epoch_host.specs.declared.walk.Walk.{Walk}
use Rattle.c_epochs.specs.Views.{KnowsTable, LacksTable}
use Rattle.c_epochs.specs.declared.fault.ShowFault.{ShowFault}
use Rattle.c_epochs.specs.declared.fault.ShowFault.TheVariants.{NoMemory}

-- whatever is so of the commands learned, the table is known
pub is_known : (w : Walk) (IsSo : List Command → Type 0) → KnowsTable w IsSo → KnowsTable w (λ learned. Unit {0})
is_known w IsSo knows = λ c h deeds leads. let known = knows c h deeds leads in (known.0, known.1, known.2, tt)

-- so memory may be told as refused
pub memory_refused : {T : Type 0} (w : Walk) → KnowsTable w (λ learned. Unit {0}) → (result : Result T ShowFault) → IsErrAnd result (λ fault. fault ≡ NoMemory) → IfErr result (LacksTable w)
memory_refused w knows (Ok value) is = absurd is
memory_refused w knows (Err fault) is = subst (LacksTable w) (sym is) knows
