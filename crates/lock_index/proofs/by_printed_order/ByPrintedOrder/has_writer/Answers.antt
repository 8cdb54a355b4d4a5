use Rattle.std.proofs.Common.{◌||◌, take, sym, ap, ◌∙◌, arith}
use Rattle.std.specs.List.{list_any}
use Rattle.std.proofs.lemmas.List.Folds.{list_any_more}
use Rattle.lock_command.specs.declared.record.LockRecord.{LockRecord}
use Rattle.lock_command.specs.State.{is_writer}
use Rattle.lock_index.specs.Shelved.{no_lock}
use Rattle.lock_index.proofs.by_printed_order.ByPrintedOrder.has_writer.Goals as goal

pub loop-at-preserved : goal.loop-at-preserved
loop-at-preserved c =
    ap (λ b. b || c.is_writer-any.result) c.loop-at.invariant
    ∙ ap (λ b. list_any (λ (r : LockRecord). is_writer r.state) (take c.loop-at.at c.args.self.now) || b) (c.is_writer-any.ensures no_lock)
    ∙ sym (list_any_more (λ (r : LockRecord). is_writer r.state) c.args.self.now c.loop-at.at no_lock (omega (arith, c.loop-at-test.true)))
