use Rattle.std.proofs.Common.{◌≡◌, ◌≤◌, ℕ, drop}
use Rattle.c_host.specs.Views.{ShowBelow, ShowsLock}
use Rattle.c_epochs.proofs.showing.show_locks.Given as goal

-- those below the place are shown, and what stands from there on is as it was
abbrev pub invariant-loop-place : goal.invariant-loop-place
invariant-loop-place l = record {
  shown : ShowBelow ShowsLock l.into l.locks l.place;
  rest : (n : ℕ) → l.place ≤ n → drop n l.into ≡ drop n l.initial.into;
}
