use Rattle.std.specs.Prelude.{All}
use Rattle.std.proofs.Common.{take}
use Rattle.epoch_sweep.specs.Judging.{Holds}
use Rattle.epoch_sweep.proofs.judging.all_held.Given as goal

-- those before this one are below the place
abbrev pub invariant-loop-said : goal.invariant-loop-said
invariant-loop-said l = All (Holds l.upto) (take l.said-index l.told)
