use Rattle.sectors.proofs.Owners.{Best}
use Rattle.sectors.proofs.owner.most_said.Given as goal

abbrev pub invariant-loop-one : goal.invariant-loop-one
invariant-loop-one l = Best l.machine l.said l.one-index l.most l.found
