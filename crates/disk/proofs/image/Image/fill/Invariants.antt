use Rattle.std.proofs.Common.{◌≡◌, ◌-◌, ◌≤◌}
use Rattle.disk.specs.Filling.{spread}
use Rattle.disk.specs.Image.{overwritten}
use Rattle.disk.proofs.image.Image.fill.Given as goal

abbrev pub invariant-loop-done : goal.invariant-loop-done
invariant-loop-done l = record {
  within : l.done ≤ l.len;
  so_far : l.self ≡ overwritten l.fn.self l.at (spread l.given 0 l.done);
}

abbrev pub decreases-loop-done : goal.decreases-loop-done
decreases-loop-done l = l.len - l.done
