-- What C is told of locks that processes which are gone have left, and of the purge of a host: by the lock table of a host of either kind.
use Rattle.std.specs.Prelude.{◌≡◌, ◌≢◌, ◌⊎◌, ◌<◌, ◌+◌, ◌-◌, ◌^◌, ℕ, ℤ, List, Option, Some, None, min}
use Rattle.lock_command.specs.declared.command.Command.{Command}
use Rattle.lock_command.specs.declared.number.TheConstants.{HOSTS}
use Rattle.lock_command.specs.declared.record.LockRecord.{LockRecord}
use Rattle.lock_table.specs.Picture.{Shown}
use Rattle.session.specs.declared.claim.Claim.{Claim}
use Rattle.session.specs.declared.claim.Step.TheVariants.{Ended}
use Rattle.session.specs.declared.outcome.Outcome.{Outcome}
use Rattle.session.specs.declared.outcome.Why.{Why}
use Rattle.session.specs.declared.outcome.Why.TheVariants.{NoNumber}
use Rattle.cleanup.specs.declared.left.Cleanup.{Cleanup}
use Rattle.cleanup.specs.declared.purging.Purging.{Purging}
use Rattle.cleanup.specs.declared.whose.Kind.{Kind}
use Rattle.cleanup.specs.declared.whose.Kind.TheVariants.{All, Shared, Alone}
use Rattle.cleanup.specs.Left.{AllPassed, IsFirstFrom, left_by, one_more}
use Rattle.cleanup.specs.Purges.{HasNoLocks, HasNoRequest, IsTried, PurgesHost}
use Rattle.c_host.specs.declared.view.LockView.{LockView}
use Rattle.c_host.specs.Numbers.{bad_argument, done, nothing_due}
use Rattle.c_host.specs.Views.{ShowsLock}
use Rattle.c_claims.specs.declared.cleanups.CleanupNumbers.{CleanupNumbers}
use Rattle.c_claims.specs.Failures.{why_number}

-- THE NUMBERS

abbrev pub kind_number : Kind → ℕ
kind_number All = 0
kind_number Shared = 1
kind_number Alone = 2

-- The numbers are of this cleanup.
pub record IsCleanupOf (n : CleanupNumbers) (c : Cleanup) : Type 0 where
  pub host : c.host < HOSTS
  pub whose : c.host ≡ n.whose
  pub kind : kind_number c.kind ≡ n.kind
  pub lowest : c.from ≡ n.from
  pub released : c.released ≡ n.released
  pub stay : c.stay ≡ n.stay

-- The numbers are of this purge.
pub record IsPurgingOf (n : CleanupNumbers) (p : Purging) : Type 0 where
  pub hosts : (p.host < HOSTS) × (p.victim < HOSTS)
  pub host : p.host ≡ n.host
  pub victim : p.victim ≡ n.whose
  pub request : p.request ≡ n.request
  pub lowest : p.from ≡ n.from

-- they are of one
abbrev pub IsCleanup : CleanupNumbers → Type 0
IsCleanup n = (c : Cleanup) × IsCleanupOf n c

abbrev pub IsPurging : CleanupNumbers → Type 0
IsPurging n = (p : Purging) × IsPurgingOf n p

-- they are of none
abbrev pub IsNoCleanup : CleanupNumbers → Type 0
IsNoCleanup n = (c : Cleanup) → IsCleanupOf n c → ⊥

abbrev pub IsNoPurging : CleanupNumbers → Type 0
IsNoPurging n = (p : Purging) → IsPurgingOf n p → ⊥

-- all locks up to this one are passed
abbrev pub passed : CleanupNumbers → ℕ → CleanupNumbers
passed n lock = record n { from = min (2 ^ 32 - 1) (lock + 1) }

-- LOCKS THAT ARE LEFT

-- The view shows the first lock of the table that is not passed yet. It is none of ours.
pub record ShowsFirst (c : Cleanup) (table : Shown) (ours : List ℕ) (view : LockView) : Type 0 where
  pub found : LockRecord
  pub first : IsFirstFrom table c.host c.kind ours c.from found
  pub shown : ShowsLock view found

-- It does; or all such locks of the table are passed, and the view is as it was.
abbrev pub TellsLeft : Cleanup → Shown → (ours : List ℕ) → (old new : LockView) → ℤ → Type 0
TellsLeft c table ours old new status =
    ((status ≡ done) × ShowsFirst c table ours new)
    ⊎ ((status ≡ nothing_due) × AllPassed table c.host c.kind ours c.from × (new ≡ old))

-- C is told that, of the cleanup of these numbers, by a table of which this is so.
pub record TellsLeftBy (IsTable : Shown → Type 0) (n : CleanupNumbers) (ours : List ℕ) (old new : LockView) (status : ℤ) : Type 0 where
  pub cleanup : Cleanup
  pub is : IsCleanupOf n cleanup
  pub table : Shown
  pub of_host : IsTable table
  pub tells : TellsLeft cleanup table ours old new status

-- It is; or the numbers are of no cleanup, or they are of one, and there is no table. Then the view is as it was.
abbrev pub NextLeft : (IsTable : Shown → Type 0) → (LacksTable : ℤ → Type 0) → CleanupNumbers → (ours : List ℕ) → (old new : LockView) → ℤ → Type 0
NextLeft IsTable LacksTable n ours old new status =
    TellsLeftBy IsTable n ours old new status
    ⊎ ((status ≡ bad_argument) × IsNoCleanup n × (new ≡ old))
    ⊎ (LacksTable status × IsCleanup n × (new ≡ old))

-- the lock counts as released, or as one that stays for this reason
abbrev pub settled : CleanupNumbers → ℕ → Option Why → CleanupNumbers
settled n lock None = record n { from = lock + 1; released = one_more n.released }
settled n lock (Some why) = record n { from = lock + 1; stay = one_more n.stay; status = why_number why }

-- The claim's lock counts, by how the claim's operation ended.
pub record Settles (c : Claim) (old new : CleanupNumbers) : Type 0 where
  pub outcome : Outcome
  pub ended : c.step ≡ Ended outcome
  pub cleanup : Cleanup
  pub is : IsCleanupOf old cleanup
  pub counts : new ≡ settled old c.lock (left_by outcome)

-- there is no such cleanup, or the claim's operation goes on
abbrev pub MayNotSettle : Claim → CleanupNumbers → Type 0
MayNotSettle c n = IsNoCleanup n ⊎ ((outcome : Outcome) → c.step ≡ Ended outcome → ⊥)

abbrev pub SettlesOrNot : Claim → CleanupNumbers → CleanupNumbers → ℤ → Type 0
SettlesOrNot c old new status = ((status ≡ done) × Settles c old new) ⊎ ((status ≡ bad_argument) × (new ≡ old) × MayNotSettle c old)

-- THE PURGE OF A HOST

-- What is to be done by this table: a sign of life is to be looked at; or a purge is to be submitted; or the host has no locks any more; or no request number
-- is left. Lock 0 is none.
abbrev pub TellsPurge : Purging → Shown → (lock : ℕ) → ℤ → Type 0
TellsPurge p table lock status =
    ((status ≡ done) × IsTried p table lock)
    ⊎ ((status ≡ done) × (lock ≡ 0) × ((command : Command) × PurgesHost p table command))
    ⊎ ((status ≡ nothing_due) × (lock ≡ 0) × HasNoLocks table p.victim)
    ⊎ ((status ≡ why_number NoNumber) × (lock ≡ 0) × HasNoRequest p table)

-- C is told that, of the purge of these numbers, by a table of which this is so.
pub record TellsPurgeBy (IsTable : Shown → Type 0) (n : CleanupNumbers) (lock : ℕ) (status : ℤ) : Type 0 where
  pub purging : Purging
  pub is : IsPurgingOf n purging
  pub table : Shown
  pub of_host : IsTable table
  pub tells : TellsPurge purging table lock status

-- It is; or the numbers are of no purge, or they are of one, and there is no table.
abbrev pub NextPurge : (IsTable : Shown → Type 0) → (LacksTable : ℤ → Type 0) → CleanupNumbers → (lock : ℕ) → ℤ → Type 0
NextPurge IsTable LacksTable n lock status =
    TellsPurgeBy IsTable n lock status
    ⊎ ((status ≡ bad_argument) × IsNoPurging n × (lock ≡ 0))
    ⊎ (LacksTable status × IsPurging n × (lock ≡ 0))

-- The command purges the host by these numbers, by a table of which this is so.
pub record PurgesBy (IsTable : Shown → Type 0) (n : CleanupNumbers) (command : Command) : Type 0 where
  pub purging : Purging
  pub is : IsPurgingOf n purging
  pub table : Shown
  pub of_host : IsTable table
  pub purges : PurgesHost purging table command

-- no purge is due: a sign of life is to be looked at first, or the host to be purged has no locks any more, or no request is left
abbrev pub NoneIsDue : Purging → Shown → Type 0
NoneIsDue p table = ((lock : ℕ) × IsTried p table lock) ⊎ HasNoLocks table p.victim ⊎ HasNoRequest p table

-- That is so of these numbers, by a table of which this is so.
pub record PurgesNone (IsTable : Shown → Type 0) (n : CleanupNumbers) : Type 0 where
  pub purging : Purging
  pub is : IsPurgingOf n purging
  pub table : Shown
  pub of_host : IsTable table
  pub none : NoneIsDue purging table

-- Why nothing is begun through a host of this number that is idle: the numbers are of no purge; or they are of one that is not this host's; or there is no
-- table; or no purge is due by it.
abbrev pub BeginsNoPurge : (IsTable : Shown → Type 0) → (LacksTable : ℤ → Type 0) → CleanupNumbers → (host : ℕ) → ℤ → Type 0
BeginsNoPurge IsTable LacksTable n host status =
    ((status ≡ bad_argument) × IsNoPurging n)
    ⊎ ((status ≡ nothing_due) × IsPurging n × (n.host ≢ host))
    ⊎ (LacksTable status × IsPurging n × (n.host ≡ host))
    ⊎ ((status ≡ nothing_due) × PurgesNone IsTable n × (n.host ≡ host))
