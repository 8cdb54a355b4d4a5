use Rattle.std.proofs.Common.{◌==◌, not, length, get_or, ap, ◌∙◌, bit_and, arith}
use Rattle.lock_command.specs.State.{holds_against}
use Rattle.lock_index.specs.Shelved.{at_places}
use Rattle.lock_index.proofs.Conflicts.{bits_at}
use Rattle.lock_index.proofs.by_printed_order.ByPrintedOrder.holds_against.Goals as goal

pub returns : goal.returns
returns c = λ d.
    let long = ap length c.self.view_is in
    ap (λ m. not (bit_and c.index.result.now m == 0)) c.bits_against.ensures
    ∙ bits_at c.args.wanted (at_places c.self.inside.records.items c.self.inside.order.items) c.self.inside.held.items c.args.at c.index.result.now c.self.invariant.6 (omega (arith, c.requires, long)) c.index.ensures d
    ∙ ap (λ l. holds_against c.args.wanted (get_or l c.args.at d).state) c.self.view_is
