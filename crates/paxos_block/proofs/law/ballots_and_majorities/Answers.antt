use Rattle.std.proofs.Common.{◌∙◌, sym, arith}
use Rattle.paxos_block.proofs.law.ballots_and_majorities.Goals as goal

pub returns-clause-one_owner : goal.returns-clause-one_owner
returns-clause-one_owner c = λ v host other ballot a b. sym a.owned ∙ b.owned

pub returns-clause-meet : goal.returns-clause-meet
returns-clause-meet c = λ disks. omega arith
