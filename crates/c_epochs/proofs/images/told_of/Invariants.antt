use Rattle.std.proofs.Common.{◌≡◌}
use Rattle.c_epochs.specs.Images.{used_of}
use Rattle.c_host.proofs.Shown.{GoBelow}
use Rattle.c_epochs.proofs.images.told_of.Given as goal

-- those below the number are told
abbrev pub invariant-loop-disk : goal.invariant-loop-disk
invariant-loop-disk l = GoBelow (λ k flag said. flag ≡ used_of said) l.used l.found l.disk
