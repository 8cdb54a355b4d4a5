use Rattle.std.proofs.Common.{◌≡◌}
use Rattle.c_host.proofs.Shown.{GoBelow}
use Rattle.c_epochs.specs.Calls.{is_before}
use Rattle.c_epochs.specs.Views.{flag}
use Rattle.c_epochs.proofs.showing.away_at.Given as goal

-- those below the number are shown
abbrev pub invariant-loop-disk : goal.invariant-loop-disk
invariant-loop-disk l = GoBelow (λ k shown first. shown ≡ flag (is_before l.epoch first)) l.away l.firsts l.disk
