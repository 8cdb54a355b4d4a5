-- Whatever is done to a simulated cluster is one log without an end.
use Rattle.std.specs.Prelude.{◌+◌, ◌≤◌, List}
use Rattle.lock_command.specs.declared.record.TheConstants.{LOCKS}
use Rattle.lock_table.specs.declared.clients.TheConstants.{CLIENTS}
use Rattle.endless.specs.WithoutEnd.{IsRunWithoutEnd}
use Rattle.epoch_runs.specs.Living.{lived_of}
use Rattle.epoch_runs.specs.World.{Entry}
use Rattle.epoch_simulator.specs.Kept.{Kept, LeadsTo}

-- The entries that lead to what is kept are one log without an end, where an epoch has room for what carries a table over.
abbrev pub RunsHaveOneLog : Type 0
RunsHaveOneLog = (entries : List Entry) (k : Kept) → LeadsTo entries k → LOCKS + CLIENTS ≤ k.shape.slots → IsRunWithoutEnd k.shape (lived_of k.shape entries)
