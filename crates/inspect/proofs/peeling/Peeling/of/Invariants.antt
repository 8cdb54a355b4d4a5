use Rattle.std.proofs.Common.{◌-◌, length}
use Rattle.inspect.specs.Peeled.{IsPeeled}
use Rattle.inspect.proofs.peeling.Peeling.of.Given as goal

abbrev pub invariant-loop : goal.invariant-loop
invariant-loop l = IsPeeled l.edges l.peeling.left l.peeling.ranks l.peeling.taken.items

abbrev pub decreases-loop : goal.decreases-loop
decreases-loop l = 256 - length l.peeling.taken.items
