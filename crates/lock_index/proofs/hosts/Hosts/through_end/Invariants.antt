use Rattle.std.proofs.Common.{◌≡◌, ◌≤◌, false}
use Rattle.std.specs.List.{AllWithin}
use Rattle.lock_index.specs.Shelved.{is_through_host}
use Rattle.lock_index.proofs.hosts.Hosts.through_end.Given as goal

-- none of those passed
abbrev pub invariant-loop-end : goal.invariant-loop-end
invariant-loop-end l = (l.end ≤ l.to) × AllWithin (λ place. is_through_host l.self l.host place ≡ false) l.order l.end l.to

abbrev pub decreases-loop-end : goal.decreases-loop-end
decreases-loop-end l = l.end
