use Rattle.cluster.proofs.ShortRecord.{receipts, receipt, only_receipt, goes, only_by}
use Rattle.cluster.proofs.examples.first_receipt_stands.Goals as goal

pub returns : goal.returns
returns c = record {
  receipts = receipts;
  receipt = receipt;
  only_then = only_receipt;
  goes = goes;
  only_by = only_by;
}
