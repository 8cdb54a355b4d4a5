use Rattle.std.proofs.Common.{length, get_or, ap, ◌∙◌, arith}
use Rattle.lock_command.specs.State.{is_writer}
use Rattle.lock_index.specs.Shelved.{at_places}
use Rattle.lock_index.proofs.Conflicts.{writer_at}
use Rattle.lock_index.proofs.by_printed_order.ByPrintedOrder.is_writer.Goals as goal

pub returns : goal.returns
returns c = λ d.
    let long = ap length c.self.view_is in
    writer_at (at_places c.self.inside.records.items c.self.inside.order.items) c.self.inside.held.items c.args.at c.index.result.now c.self.invariant.6 (omega (arith, c.requires, long)) c.index.ensures d
    ∙ ap (λ l. is_writer (get_or l c.args.at d).state) c.self.view_is
