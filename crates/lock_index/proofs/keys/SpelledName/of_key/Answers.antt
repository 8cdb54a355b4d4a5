use Rattle.std.proofs.Common.{arith}
use Rattle.lock_index.proofs.Spelled.{name_small}
use Rattle.lock_index.proofs.keys.SpelledName.of_key.Goals as goal

pub invariant_of-result : goal.invariant_of-result
invariant_of-result c = (c.requires.key, omega (arith, c.requires.key, name_small c.args.name c.requires.named), c.requires.named)
