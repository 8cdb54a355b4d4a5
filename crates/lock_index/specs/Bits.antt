-- What locks hold, as bits.
use Rattle.std.specs.Prelude.{ℕ, List, map}
use Rattle.lock_command.specs.declared.mode.Mode.{Mode}
use Rattle.lock_command.specs.declared.mode.Mode.TheVariants.{Null, ConcurrentRead, ConcurrentWrite, ProtectedRead, ProtectedWrite, Exclusive}
use Rattle.lock_command.specs.declared.record.LockRecord.{LockRecord}
use Rattle.lock_command.specs.declared.state.LockState.{LockState}
use Rattle.lock_command.specs.declared.state.LockState.TheVariants.{Granted, Converting, Waiting}

-- a bit for each mode
abbrev pub bit_of : Mode → ℕ
bit_of Null = 1
bit_of ConcurrentRead = 2
bit_of ConcurrentWrite = 4
bit_of ProtectedRead = 8
bit_of ProtectedWrite = 16
bit_of Exclusive = 32

-- the bits of the modes that conflict with one
abbrev pub bits_against : Mode → ℕ
bits_against Null = 0
bits_against ConcurrentRead = 32
bits_against ConcurrentWrite = 56
bits_against ProtectedRead = 52
bits_against ProtectedWrite = 60
bits_against Exclusive = 62

-- the bit of the mode that is held
abbrev pub held_bit : LockState → ℕ
held_bit (Granted mode) = bit_of mode
held_bit (Converting held wanted) = bit_of held
held_bit (Waiting wanted) = 0

-- what each lock holds
abbrev pub held_bits : List LockRecord → List ℕ
held_bits locks = map (λ r. held_bit r.state) locks
