use Rattle.std.proofs.Common.{◌≡◌, take}
use Rattle.race.proofs.prefixes.is_prefix.Given as goal

abbrev pub invariant-loop-i : goal.invariant-loop-i
invariant-loop-i l = take l.i l.short ≡ take l.i l.long
