-- What is known of a disk under a boot number.
use Rattle.std.specs.Prelude.{◌≡◌, ℕ, true, Option, Some, None, IsSome}
use Rattle.window.specs.declared.sight.Sight.{Sight}
use Rattle.window.specs.Steps.{numbers_under}

-- the disk told this boot number last
abbrev pub IsUnder : ℕ → Option Sight → Type 0
IsUnder boot None = ⊥
IsUnder boot (Some s) = s.boot.number ≡ boot

-- and it was synced under it
abbrev pub IsSyncedUnder : ℕ → Option Sight → Type 0
IsSyncedUnder boot None = ⊥
IsSyncedUnder boot (Some s) = (s.boot.number ≡ boot) × (s.is_synced ≡ true)

-- and then the host's number was read, and was the epoch's
abbrev pub IsSureUnder : ℕ → Option Sight → Type 0
IsSureUnder boot None = ⊥
IsSureUnder boot (Some s) = (s.boot.number ≡ boot) × (s.is_sure ≡ true)

-- the standings were read under this boot number
abbrev pub IsKnownUnder : ℕ → Option Sight → Type 0
IsKnownUnder boot sight = IsSome (numbers_under boot sight)

-- What was so stays so.
pub record Keeps (old new : Option Sight) : Type 0 where
  pub under : (boot : ℕ) → IsUnder boot old → IsUnder boot new
  pub synced : (boot : ℕ) → IsSyncedUnder boot old → IsSyncedUnder boot new
  pub sure : (boot : ℕ) → IsSureUnder boot old → IsSureUnder boot new
  pub known : (boot : ℕ) → IsKnownUnder boot old → IsKnownUnder boot new
