-- The numbers of what fails.
use Rattle.std.specs.Prelude.{◌≡◌, ◌⊎◌, ℤ, pos, negsuc}
use Rattle.lock_command.specs.declared.reply.Refusal.TheVariants.{NoSuchLock, StillWaiting, TableFull}
use Rattle.session.specs.declared.outcome.Failure.{Failure}
use Rattle.session.specs.declared.outcome.Failure.TheVariants as failure
use Rattle.session.specs.declared.outcome.Why.{Why}
use Rattle.session.specs.declared.outcome.Why.TheVariants as why
use Rattle.c_host.specs.Numbers.{table_number}

abbrev pub failure_number : Failure → ℤ
failure_number failure.Outrun = pos 6
failure_number failure.NoMajority = pos 7
failure_number failure.BallotsSpent = pos 8
failure_number failure.LogFull = pos 9
failure_number failure.NotACommand = pos 10
failure_number failure.NoMemory = pos 21
failure_number failure.NotFormatted = pos 24
failure_number failure.WrongHeader = pos 25
failure_number failure.Unreadable = pos 26
failure_number failure.OldLayout = pos 32
failure_number failure.HostInUse = pos 36
failure_number failure.NoLock = pos 37
failure_number failure.Broken = negsuc 2

abbrev pub why_number : Why → ℤ
why_number why.TimeOver = negsuc 1
why_number why.Taken = negsuc 1
why_number why.Stopped = negsuc 4
why_number why.Gone = table_number NoSuchLock
why_number why.Waits = table_number StillWaiting
why_number why.NoNumber = table_number TableFull
why_number (why.Refused refusal) = table_number refusal
why_number (why.Failed failed) = failure_number failed

-- The failure of this number. Where none has it, the library is in no state that it should be in.
pub record IsFailureOf (status : ℤ) (failed : Failure) : Type 0 where
  pub known : (known : Failure) → failure_number known ≡ status → failed ≡ known
  pub numbered : (failure_number failed ≡ status) ⊎ (failed ≡ failure.Broken)
