-- What becomes of a claim that C asks to be kept in a handle, and what C is told of the name of a sign of life.
use Rattle.std.specs.Prelude.{◌≡◌, ◌⊎◌, ℕ, ℤ, Bool, List, length, Option, Some, None}
use Rattle.lock_command.specs.declared.mode.Mode.{Mode}
use Rattle.lock_command.specs.Signs.{sign_name}
use Rattle.session.specs.declared.claim.Claim.{Claim}
use Rattle.c_host.specs.declared.fault.Fault.{Fault}
use Rattle.c_host.specs.Numbers.{bad_argument, done, fault_number, no_memory}
use Rattle.c_claims.specs.declared.asker.AskerNumbers.{AskerNumbers}
use Rattle.c_claims.specs.Asking.{IsLeftOf, IsNewOf, MayBeLeft, MayTake}
use Rattle.c_claims.specs.Signs.{IsText, LacksName}

-- The handle keeps such a claim; or it is as it was, since none can be made of the arguments; or one can, and memory was refused for it, and it keeps none.
abbrev pub KeepsOne : (IsAsked : Claim → Type 0) → (Wrong : Type 0) → Option Claim → Option Claim → ℤ → Type 0
KeepsOne IsAsked Wrong old new status =
    ((status ≡ done) × ((c : Claim) × (new ≡ Some c) × IsAsked c))
    ⊎ ((status ≡ bad_argument) × (new ≡ old) × Wrong)
    ⊎ ((status ≡ no_memory) × (new ≡ None) × ((c : Claim) × IsAsked c))

abbrev pub KeepsNew : AskerNumbers → List ℕ → ℕ → Bool → Option Claim → Option Claim → ℤ → Type 0
KeepsNew numbers name mode waits = KeepsOne (IsNewOf numbers name mode waits) ((wanted : Mode) → MayTake numbers name mode wanted → ⊥)

abbrev pub KeepsLeft : AskerNumbers → ℕ → List ℕ → ℕ → Option Claim → Option Claim → ℤ → Type 0
KeepsLeft numbers lock name mode = KeepsOne (IsLeftOf numbers lock name mode) ((wanted : Mode) → MayBeLeft numbers lock name mode wanted → ⊥)

-- The buffer has the name of the lock's sign in the folder of this set; or the buffer is as it was, and why is told.
abbrev pub NamesSign : (set host lock : ℕ) → (old new : List ℕ) → (status : ℤ) → Type 0
NamesSign set host lock old new status =
    ((status ≡ done) × IsText (sign_name set host lock) old new)
    ⊎ (((fault : Fault) × LacksName set host lock (length old) fault × (status ≡ fault_number fault)) × (new ≡ old))
