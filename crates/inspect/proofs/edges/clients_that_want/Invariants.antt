use Rattle.std.proofs.Common.{◌≡◌, length}
use Rattle.inspect.specs.Marks.{HasWanting}
use Rattle.inspect.proofs.edges.clients_that_want.Given as goal

abbrev pub invariant-locks : goal.invariant-locks
invariant-locks l = record {
  long : length l.clients ≡ 256;
  has : HasWanting l.locks l.lock-index l.clients;
}
