use Rattle.std.proofs.Common.{arith}
use Rattle.attempt.specs.Answers.{on}
use Rattle.attempt.specs.Status.{Ended, Decided, Empty}
use Rattle.attempt.proofs.Statuses.{HasNone, HasDecided, told_by}
use Rattle.attempt.proofs.Proposals as proposals
use Rattle.attempt.proofs.Preparing as preparing
use Rattle.attempt.proofs.Deciding as marks
use Rattle.attempt.proofs.law.prepared_and_proposed.Goals as goal

pub returns : goal.returns
returns c = record {
  prepared = λ s heard value is proposes. preparing.prepared s heard is value proposes;
  proposal = λ s heard value host votes proposes. proposals.proposed s (on heard) host votes value proposes.has.is;
  voting = λ s heard d due. preparing.voting s (on heard) d due;
  committed = λ s heard value ended. preparing.committed s (on heard) value ended;
  empty = λ s heard is ended. preparing.prepared_empty s heard is ended;
  none = λ s heard host votes ended.
      let none : HasNone s (on heard) = told_by s (on heard) (Ended Empty) ended in
      proposals.not_proposed s (on heard) host votes none.none;
  accepted = λ s heard value is ended. preparing.accepted s heard is value ended;
  decided = λ s heard value ended.
      let told : HasDecided s value (on heard) = told_by s (on heard) (Ended (Decided value)) ended in
      marks.mark_seen s (on heard) value s.disks (omega arith) told.decided_is;
}
