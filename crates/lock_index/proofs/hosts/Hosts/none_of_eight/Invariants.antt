use Rattle.std.proofs.Common.{◌≡◌, false, IsTrue}
use Rattle.std.specs.List.{AllWithin}
use Rattle.lock_index.specs.Shelved.{is_through_host}
use Rattle.lock_index.proofs.hosts.Hosts.none_of_eight.Given as goal

-- none of those so far
abbrev pub invariant-loop-at : goal.invariant-loop-at
invariant-loop-at l = IsTrue l.none → AllWithin (λ place. is_through_host l.self l.host place ≡ false) l.order l.fn.from l.at
