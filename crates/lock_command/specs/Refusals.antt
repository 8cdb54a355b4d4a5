-- Of the headline. The number and the name of each refusal of the lock table. They are printed, and the number is in the bytes of a client that is carried over.
use Rattle.std.specs.Prelude.{ℕ, ◌==◌, List, [], ◌∷◌, codes, Option}
use Rattle.std.specs.List.{find}
use Rattle.lock_command.specs.declared.reply.Refusal.{Refusal}
use Rattle.lock_command.specs.declared.reply.Refusal.TheVariants.{LockInUse, NoSuchLock, NotOwner, AlreadyConverting, StillWaiting, NotQueued, TableFull, Stale, ClientsFull, NothingToCancel}

-- Each has a number of its own, which no other refusal gets later.
abbrev pub refusal_number : Refusal → ℕ
refusal_number LockInUse = 11
refusal_number NoSuchLock = 12
refusal_number NotOwner = 13
refusal_number AlreadyConverting = 14
refusal_number StillWaiting = 15
refusal_number NotQueued = 16
refusal_number TableFull = 17
refusal_number Stale = 18
refusal_number ClientsFull = 19
refusal_number NothingToCancel = 20

abbrev pub refusal_name : Refusal → List ℕ
refusal_name LockInUse = codes "LockInUse"
refusal_name NoSuchLock = codes "NoSuchLock"
refusal_name NotOwner = codes "NotOwner"
refusal_name AlreadyConverting = codes "AlreadyConverting"
refusal_name StillWaiting = codes "StillWaiting"
refusal_name NotQueued = codes "NotQueued"
refusal_name TableFull = codes "TableFull"
refusal_name Stale = codes "Stale"
refusal_name ClientsFull = codes "ClientsFull"
refusal_name NothingToCancel = codes "NothingToCancel"

-- all of them
abbrev pub refusals : List Refusal
refusals = LockInUse ∷ NoSuchLock ∷ NotOwner ∷ AlreadyConverting ∷ StillWaiting ∷ NotQueued ∷ TableFull ∷ Stale ∷ ClientsFull ∷ NothingToCancel ∷ []

-- the one that has this number
unfoldable pub refusal_of : ℕ → Option Refusal
refusal_of n = find (λ refusal. refusal_number refusal == n) refusals
