use Rattle.std.proofs.Common.{take}
use Rattle.lock_table.specs.Apply.{table_after}
use Rattle.lock_table.specs.Picture.{IsPictureOf}
use Rattle.fault_sweep.proofs.judging.fold.Given as goal

abbrev pub invariant-loop-command : goal.invariant-loop-command
invariant-loop-command l = IsPictureOf l.table (table_after (take l.command-index l.commands))
