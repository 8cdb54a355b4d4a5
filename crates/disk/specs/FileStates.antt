-- A disk that is a file: what is known of it, and what each call of it does to that. What the file holds is not known.
use Rattle.std.specs.Prelude.{◌≡◌, ◌+◌, ◌-◌, ◌^◌, ℕ, Bool, true, false, min, IsTrue}
use Rattle.std.proofs.Common.{sym, true≢false}
use Rattle.disk.specs.declared.fault.DiskFault.TheVariants.{Reset, Failed, Gone}
use Rattle.disk.specs.Disk.{Call, Attach, Read, Write, Sync, Answer, Booted, Told, Done, Fault, IsUnder}

-- whether the file is in use, how many bytes the disk has, and how many calls have failed
pub record FileState : Type 0 where
  pub used : Bool
  pub size : ℕ
  pub failures : ℕ

-- a file whose sync failed is used no more: what it did not write down may be lost, and no later sync would tell
abbrev pub used_after : FileState → Call → Bool
used_after old Attach = old.used
used_after old (Read boot at len) = old.used
used_after old (Write boot at from) = old.used
used_after old (Sync boot) = false

-- a failed call is counted, and any other changes nothing that is known
abbrev pub known_after : FileState → Call → Answer → FileState
known_after old call (Fault Failed) = record { used = used_after old call; size = old.size; failures = min (old.failures + 1) (2 ^ 64 - 1) }
known_after old call (Fault Reset) = old
known_after old call (Fault Gone) = old
known_after old call (Booted boot) = old
known_after old call (Told bytes) = old
known_after old call Done = old

-- a file is never lost and its boot number is 1; one that is not in use carries out no call
abbrev pub MayAnswer : FileState → Call → Answer → Type 0
MayAnswer old call (Fault Gone) = ⊥
MayAnswer old call (Fault Reset) = IsUnder call 1 → ⊥
MayAnswer old call (Fault Failed) = IsUnder call 1
MayAnswer old call (Booted boot) = (boot ≡ 1) × (old.used ≡ true)
MayAnswer old call (Told bytes) = IsUnder call 1 × (old.used ≡ true)
MayAnswer old call Done = IsUnder call 1 × (old.used ≡ true)

-- what a call of a file answers, and what is then known of it
abbrev pub FileGives : FileState → Call → Answer → FileState → Type 0
FileGives old call answer new = MayAnswer old call answer × (new ≡ known_after old call answer)

-- a disk that does not tell its bytes has nothing to keep of them
pub untold : {A : Type 0} → IsTrue false → A
untold tells = absurd (true≢false (sym tells))
