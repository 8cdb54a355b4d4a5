-- What is said of a picture's clients: that they wait in a circle, or ranks that show that they do not.
use Rattle.std.specs.Prelude.{List}
use Rattle.lock_command.specs.declared.record.LockRecord.{LockRecord}
use Rattle.inspect.specs.declared.verdict.Blocking.{Blocking}
use Rattle.inspect.specs.declared.verdict.Blocking.TheVariants.{Cycle, Ranked}
use Rattle.inspect.specs.Blocked.{IsBlockedBy, IsCycle, AreRanks}

abbrev pub IsVerdict : List LockRecord → Blocking → Type 0
IsVerdict locks (Cycle clients) = IsCycle (IsBlockedBy locks) clients.items
IsVerdict locks (Ranked ranks) = AreRanks (IsBlockedBy locks) ranks
