use Rattle.std.proofs.Common.{◌≡◌, ◌==◌, take}
use Rattle.std.specs.List.{list_all}
use Rattle.torn_block.proofs.layout.are_zeros.Given as goal

-- all bytes so far
abbrev pub invariant-loop-at : goal.invariant-loop-at
invariant-loop-at g l = l.zeros ≡ list_all (λ b. b == 0) (take l.at l.array)
