use Rattle.std.proofs.Common.{arith}
use Rattle.migration.proofs.Going.{fills_next}
use Rattle.migration.proofs.notes.Notes.leave_filled.Goals as goal

pub returns-then-self-disks-clause-hears : goal.returns-then-self-disks-clause-hears
returns-then-self-disks-clause-hears c = fills_next c.args.self.now c.requires.going c.requires.stage (omega arith)
