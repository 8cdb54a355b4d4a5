-- What C is told where it asks to be shown something of the table.
use Rattle.std.specs.Prelude.{◌≡◌, ◌⊎◌, ℕ, ℤ, List}
use Rattle.lock_command.specs.declared.command.Command.{Command}
use Rattle.c_host.specs.declared.view.LockView.{LockView}
use Rattle.c_host.specs.declared.view.ValueView.{ValueView}
use Rattle.c_host.specs.Numbers.{done, no_such_lock, no_memory}
use Rattle.c_host.specs.Views.{FindsLock, FindsValue, LacksLock}

-- The table has no lock of this number, or memory was refused.
abbrev pub TellsNoLock : List Command → ℕ → ℤ → Type 0
TellsNoLock learned number status = ((status ≡ no_such_lock) × LacksLock learned number) ⊎ (status ≡ no_memory)

-- The lock is shown; or it is not, and why is told, and the view is as it was.
abbrev pub TellsLock : List Command → ℕ → (old new : LockView) → ℤ → Type 0
TellsLock learned number old new status = ((status ≡ done) × FindsLock learned number new) ⊎ (TellsNoLock learned number status × (new ≡ old))

-- The same of its value.
abbrev pub TellsValue : List Command → ℕ → (old new : ValueView) → ℤ → Type 0
TellsValue learned number old new status = ((status ≡ done) × FindsValue learned number new) ⊎ (TellsNoLock learned number status × (new ≡ old))

-- nothing is put into the buffer, and C is told that there is nothing
abbrev pub ShowsNothing : {T : Type 0} → (old new : T) → (count : ℕ) → Type 0
ShowsNothing old new count = (new ≡ old) × (count ≡ 0)

-- This is shown; or memory was refused, and nothing is.
abbrev pub Tells : (IsShown IsNothing : Type 0) → ℤ → Type 0
Tells IsShown IsNothing status = ((status ≡ done) × IsShown) ⊎ ((status ≡ no_memory) × IsNothing)
