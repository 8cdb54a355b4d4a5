use Rattle.std.proofs.Common.{arith}
use Rattle.lock_table.proofs.Stored.{all_locked}
use Rattle.lock_table.proofs.valued.keep_locked.Goals as goal

pub returns-in_default : goal.returns-in_default
returns-in_default c = all_locked c.args.locks.now c.args.values.now (λ name there. grind (arith, c.requires.others name there))

pub returns-in_default-found : goal.returns-in_default-found
returns-in_default-found c = all_locked c.args.locks.now c.args.values.now (λ name there. grind (arith, c.requires.others name there))
