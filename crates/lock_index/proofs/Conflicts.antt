-- Bits tell which modes conflict.
use Rattle.std.proofs.Common.{◌≡◌, ◌==◌, ℕ, not, List, length, get_or, ◌<◌, refl, ap, ◌∙◌, bit_and}
use Rattle.std.proofs.lemmas.List.{get_or-map}
use Rattle.lock_command.specs.declared.mode.Mode.{Mode}
use Rattle.lock_command.specs.declared.mode.Mode.TheVariants.{Null, ConcurrentRead, ConcurrentWrite, ProtectedRead, ProtectedWrite, Exclusive}
use Rattle.lock_command.specs.Mode.{conflict, writes_alone}
use Rattle.lock_command.specs.declared.record.LockRecord.{LockRecord}
use Rattle.lock_command.specs.declared.state.LockState.{LockState}
use Rattle.lock_command.specs.declared.state.LockState.TheVariants.{Granted, Converting, Waiting}
use Rattle.lock_index.specs.declared.bits.TheConstants.{WRITERS}
use Rattle.lock_command.specs.State.{holds_against, is_writer}
use Rattle.lock_index.specs.Bits.{bit_of, bits_against, held_bit, held_bits}

bits_conflict : (held wanted : Mode) → not (bit_and (bit_of held) (bits_against wanted) == 0) ≡ conflict held wanted
bits_conflict Null Null = refl
bits_conflict Null ConcurrentRead = refl
bits_conflict Null ConcurrentWrite = refl
bits_conflict Null ProtectedRead = refl
bits_conflict Null ProtectedWrite = refl
bits_conflict Null Exclusive = refl
bits_conflict ConcurrentRead Null = refl
bits_conflict ConcurrentRead ConcurrentRead = refl
bits_conflict ConcurrentRead ConcurrentWrite = refl
bits_conflict ConcurrentRead ProtectedRead = refl
bits_conflict ConcurrentRead ProtectedWrite = refl
bits_conflict ConcurrentRead Exclusive = refl
bits_conflict ConcurrentWrite Null = refl
bits_conflict ConcurrentWrite ConcurrentRead = refl
bits_conflict ConcurrentWrite ConcurrentWrite = refl
bits_conflict ConcurrentWrite ProtectedRead = refl
bits_conflict ConcurrentWrite ProtectedWrite = refl
bits_conflict ConcurrentWrite Exclusive = refl
bits_conflict ProtectedRead Null = refl
bits_conflict ProtectedRead ConcurrentRead = refl
bits_conflict ProtectedRead ConcurrentWrite = refl
bits_conflict ProtectedRead ProtectedRead = refl
bits_conflict ProtectedRead ProtectedWrite = refl
bits_conflict ProtectedRead Exclusive = refl
bits_conflict ProtectedWrite Null = refl
bits_conflict ProtectedWrite ConcurrentRead = refl
bits_conflict ProtectedWrite ConcurrentWrite = refl
bits_conflict ProtectedWrite ProtectedRead = refl
bits_conflict ProtectedWrite ProtectedWrite = refl
bits_conflict ProtectedWrite Exclusive = refl
bits_conflict Exclusive Null = refl
bits_conflict Exclusive ConcurrentRead = refl
bits_conflict Exclusive ConcurrentWrite = refl
bits_conflict Exclusive ProtectedRead = refl
bits_conflict Exclusive ProtectedWrite = refl
bits_conflict Exclusive Exclusive = refl

nothing_conflicts : (wanted : Mode) → not (bit_and 0 (bits_against wanted) == 0) ≡ holds_against wanted (Waiting wanted)
nothing_conflicts Null = refl
nothing_conflicts ConcurrentRead = refl
nothing_conflicts ConcurrentWrite = refl
nothing_conflicts ProtectedRead = refl
nothing_conflicts ProtectedWrite = refl
nothing_conflicts Exclusive = refl

pub bits_tell : (wanted : Mode) (s : LockState) → not (bit_and (held_bit s) (bits_against wanted) == 0) ≡ holds_against wanted s
bits_tell wanted (Granted held) = bits_conflict held wanted
bits_tell wanted (Converting held other) = bits_conflict held wanted
bits_tell wanted (Waiting other) = nothing_conflicts wanted

-- what is told by the bits at a place
pub bits_at : (wanted : Mode) (locks : List LockRecord) (bits : List ℕ) (i b : ℕ) → bits ≡ held_bits locks → i < length locks → b ≡ get_or bits i b
    → (d : LockRecord) → not (bit_and b (bits_against wanted) == 0) ≡ holds_against wanted (get_or locks i d).state
bits_at wanted locks bits i b is inside read d =
    ap (λ n. not (bit_and n (bits_against wanted) == 0)) (read ∙ ap (λ l. get_or l i b) is ∙ get_or-map (λ (r : LockRecord). held_bit r.state) locks i d b inside)
    ∙ bits_tell wanted (get_or locks i d).state

writer_tell : (mode : Mode) → not (bit_and (bit_of mode) WRITERS == 0) ≡ writes_alone mode
writer_tell Null = refl
writer_tell ConcurrentRead = refl
writer_tell ConcurrentWrite = refl
writer_tell ProtectedRead = refl
writer_tell ProtectedWrite = refl
writer_tell Exclusive = refl

-- and who writes alone
pub writers_tell : (s : LockState) → not (bit_and (held_bit s) WRITERS == 0) ≡ is_writer s
writers_tell (Granted held) = writer_tell held
writers_tell (Converting held other) = writer_tell held
writers_tell (Waiting other) = refl

pub writer_at : (locks : List LockRecord) (bits : List ℕ) (i b : ℕ) → bits ≡ held_bits locks → i < length locks → b ≡ get_or bits i b
    → (d : LockRecord) → not (bit_and b WRITERS == 0) ≡ is_writer (get_or locks i d).state
writer_at locks bits i b is inside read d =
    ap (λ n. not (bit_and n WRITERS == 0)) (read ∙ ap (λ l. get_or l i b) is ∙ get_or-map (λ (r : LockRecord). held_bit r.state) locks i d b inside)
    ∙ writers_tell (get_or locks i d).state
