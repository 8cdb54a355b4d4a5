use Rattle.std.proofs.Common.{take}
use Rattle.lock_table.specs.Apply.{table_after}
use Rattle.fault_sweep.proofs.Comparing.{replies_if, replies_only, no_reply}
use Rattle.fault_sweep.proofs.judging.replies.Goals as goal

pub returns : goal.returns
returns c =
    let log = c.args.log.now in
    let slot = c.args.slot in
    let gives = c.apply.ensures.reply (table_after (take slot log)) c.in_ok-table.ensures in (
      (λ t. replies_if log slot c.index-log-slot.result c.apply.result c.args.reply c.if-slot-log.false c.index-log-slot.is gives (c.is_same_reply.ensures.0 t)),
      (λ r. c.is_same_reply.ensures.1 (replies_only log slot c.index-log-slot.result c.apply.result c.args.reply c.if-slot-log.false c.index-log-slot.is gives r)),
    )

pub returns-then-slot-log : goal.returns-then-slot-log
returns-then-slot-log c = ((λ t. absurd cc), (λ r. absurd (no_reply c.args.log.now c.args.slot c.args.reply c.if-slot-log.true r)))
