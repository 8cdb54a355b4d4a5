use Rattle.epochs.proofs.Numbers.{zeros_are_none, others_leave_numbers, syncs_make_sure, crashes_leave_one, writes_are_next, writes_raise}
use Rattle.epochs.proofs.law.numbers_are_bytes.Goals as goal

pub returns : goal.returns
returns c = record { zeros = zeros_are_none; others = others_leave_numbers; syncs = syncs_make_sure; crashes = crashes_leave_one; writes = writes_are_next; raises = writes_raise }
