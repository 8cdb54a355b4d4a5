use Rattle.std.proofs.Common.{length}
use Rattle.lock_script.specs.Lines.{lines_of}
use Rattle.epoch_script.proofs.Plains.{IsPlain}
use Rattle.epoch_script.proofs.plain.plain_bytes.Given as goal

abbrev pub invariant-lines : goal.invariant-lines
invariant-lines l = IsPlain (lines_of l.bytes) l.rest l.plain.items

abbrev pub decreases-lines : goal.decreases-lines
decreases-lines l = length l.rest
