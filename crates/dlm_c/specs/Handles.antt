-- What a call does with what a handle keeps, a host or a claim, and what C is told where nothing is kept.
use Rattle.std.specs.Prelude.{◌≡◌, ℤ, Option, Some, None}
use Rattle.c_host.specs.Numbers.{closed}

-- this is so of what is kept, if anything is
abbrev pub InKept : {T : Type 0} → (T → T → Type 0) → Option T → Option T → Type 0
InKept Changes None new = new ≡ None
InKept Changes (Some old) None = ⊥
InKept Changes (Some old) (Some new) = Changes old new

-- the same, and where nothing is, C is told so
abbrev pub InHandle : {T : Type 0} → (T → T → Type 0) → Option T → Option T → ℤ → Type 0
InHandle Changes None new status = (new ≡ None) × (status ≡ closed)
InHandle Changes (Some old) None status = ⊥
InHandle Changes (Some old) (Some new) status = Changes old new
