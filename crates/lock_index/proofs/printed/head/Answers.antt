use Rattle.std.proofs.Common.{◌≡◌, Some, None, true, false, nat_lt, get_or, sym, ap, ◌∙◌, arith}
use Rattle.lock_command.specs.declared.record.LockRecord.{LockRecord}
use Rattle.lock_index.specs.Keys.{lock_key}
use Rattle.lock_command.specs.Locks.{head_of}
use Rattle.lock_index.specs.Shelved.{no_lock}
use Rattle.lock_index.proofs.Groups.{turn_by_key, no_turn_behind}
use Rattle.lock_index.proofs.Stretches.{passes_if, fails_if}
use Rattle.lock_index.proofs.printed.head.Goals as goal
use Rattle.lock_index.proofs.printed.head.Goals.{else-end-len-via-then-end-len+else-below-eq1, else-end-len-via-else-end-len}

pub returns-then-below-eq1 : goal.returns-then-below-eq1
returns-then-below-eq1 c =
    let xs = c.args.printed.now in
    let r = c.get.result.now in
    let own = passes_if (nat_lt (lock_key (get_or xs c.args.end r)) c.key.result) c.below.result (c.below.ensures.below r) (omega (arith, c.if-below-eq1.true)) in
    ap (λ (o : LockRecord). Some o) c.get.ensures.lock
    ∙ sym (turn_by_key c.args.name.now xs c.args.end r c.requires.end c.requires.sorted c.len.ensures.fit c.key.ensures.name (omega (arith, c.if-end-len.true, c.len.ensures.len)) true
    (ap (nat_lt (lock_key (get_or xs c.args.end r))) (sym c.key.ensures.key) ∙ own))

pub returns-else-end-len : goal.returns-else-end-len
returns-else-end-len c =
    let xs = c.args.printed.now in
    sym (elim c.else-end-len.branch as (λ w. head_of xs c.args.name.now ≡ None) [
      | else-end-len-via-then-end-len+else-below-eq1 w ↦
          let other = fails_if (nat_lt (lock_key (get_or xs c.args.end no_lock)) w.key.result) w.below.result (w.below.ensures.below no_lock) (omega (arith, w.if-below-eq1.false, w.below.ensures.few)) in
          turn_by_key c.args.name.now xs c.args.end no_lock c.requires.end c.requires.sorted c.len.ensures.fit w.key.ensures.name (omega (arith, w.if-end-len.true, c.len.ensures.len)) false
          (ap (nat_lt (lock_key (get_or xs c.args.end no_lock))) (sym w.key.ensures.key) ∙ other)
      | else-end-len-via-else-end-len w ↦ no_turn_behind c.args.name.now xs c.args.end no_lock c.requires.end c.requires.sorted (omega (arith, w.if-end-len.false, c.len.ensures.len))
    ])
