use Rattle.std.proofs.Common.{◌≡◌, length}
use Rattle.dlm_c.specs.Owners.{said_by}
use Rattle.c_host.proofs.Shown.{GoBelow}
use Rattle.dlm_c.proofs.owner.AllHeard.said.Given as goal

abbrev pub invariant-loop-disk : goal.invariant-loop-disk
invariant-loop-disk l = record {
  all : length l.said ≡ 7;
  said : GoBelow (λ k said heard. said ≡ said_by heard) l.said l.self.all l.disk;
}
