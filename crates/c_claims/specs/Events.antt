-- What came of an order, as C says it.
use Rattle.std.specs.Prelude.{◌≡◌, ◌≤◌, ◌⊎◌, ℕ, ℤ, Result, Ok, Err}
use Rattle.lock_command.specs.declared.reply.Reply.{Reply}
use Rattle.session.specs.declared.outcome.Failure.{Failure}
use Rattle.c_claims.specs.declared.event.Event.{Event}
use Rattle.c_claims.specs.declared.event.Event.TheVariants.{Opened, Learned, Replied, Refused, Signed, SignHeld, SignDropped, Unknown}
use Rattle.c_claims.specs.Failures.{IsFailureOf}

-- an event has this number
abbrev pub IsNumber : ℕ → Type 0
IsNumber number = (1 ≤ number) × (number ≤ 7)

-- C says this by the number, and the status where it has one, of a host that says so of the command
abbrev pub IsEvent : (number : ℕ) → (status : ℤ) → (said : Result Reply Failure) → Event → Type 0
IsEvent number status said Opened = number ≡ 1
IsEvent number status said Learned = number ≡ 2
IsEvent number status said (Replied reply) = (number ≡ 3) × (said ≡ Ok reply)
IsEvent number status said (Refused failed) = ((number ≡ 3) × (said ≡ Err failed)) ⊎ ((number ≡ 4) × IsFailureOf status failed)
IsEvent number status said Signed = number ≡ 5
IsEvent number status said SignHeld = number ≡ 6
IsEvent number status said SignDropped = number ≡ 7
IsEvent number status said Unknown = IsNumber number → ⊥
