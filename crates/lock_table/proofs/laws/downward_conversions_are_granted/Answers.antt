use Rattle.lock_table.specs.Apply.{table_after}
use Rattle.lock_table.proofs.Carrying.{peace_after}
use Rattle.lock_table.proofs.Downward.{downward_granted}
use Rattle.lock_table.proofs.laws.downward_conversions_are_granted.Goals as goal

pub returns : goal.returns
returns c = record {
  granted = λ renewals commands host r held mode no_queue value is there holds down.
      downward_granted (table_after commands).locks host r held mode no_queue value (peace_after renewals commands is) there holds down;
}
