use Rattle.std.proofs.Common.{◌≡◌, ◌++◌, take, drop}
use Rattle.inspect.proofs.trail.turned.Given as goal

abbrev pub invariant-behind : goal.invariant-behind
invariant-behind l = l.result.items ≡ take l.client-index (drop l.least l.circle)

abbrev pub invariant-front : goal.invariant-front
invariant-front l = l.result.items ≡ drop l.least l.circle ++ take l.client-index (take l.least l.circle)
