use Rattle.std.proofs.Common.{◌≡◌, List, length, sym, ap, subst, ◌∙◌, arith}
use Rattle.lock_command.specs.declared.record.LockRecord.{LockRecord}
use Rattle.lock_index.specs.Indexed.{IsIndexed}
use Rattle.lock_command.specs.Locks.{lock_in, without, put}
use Rattle.lock_index.specs.Printed.{printed_cmp}
use Rattle.lock_index.specs.Placed.{placed, in_order}
use Rattle.lock_index.proofs.Shown.{indexed_put, numbers_find, numbers_length, shown_put, without_new}
use Rattle.lock_index.proofs.index.Index.put_new.Goals as goal

pub put_new-requires-clause-absent : goal.put_new-requires-clause-absent
put_new-requires-clause-absent c =
    numbers_find c.self.inside.printed c.self.inside.numbers c.self.invariant c.args.new.lock
    ∙ ap (λ l. lock_in l c.args.new.lock) c.self.view_is
    ∙ c.requires.absent

pub put_new-requires-clause-room : goal.put_new-requires-clause-room
put_new-requires-clause-room c =
    let same = numbers_length c.self.inside.printed c.self.inside.numbers c.self.invariant in
    let here = ap length c.self.view_is in
    omega (arith, same, here, c.requires.room)

placed_is : (c : goal.After-put_in) → c.put_in.new.printed ≡ placed printed_cmp c.args.new (without c.self.inside.printed c.args.new.lock)
placed_is c = c.put_in.ensures.items ∙ ap (placed printed_cmp c.args.new) (sym (without_new c.self.inside.printed c.args.new.lock (ap (λ l. lock_in l c.args.new.lock) c.self.view_is ∙ c.requires.absent)))

pub invariant_of-self : goal.invariant_of-self
invariant_of-self c =
    subst (λ (l : List LockRecord). IsIndexed l c.put_new.new.numbers) (sym (placed_is c))
    (indexed_put c.self.inside.printed c.self.inside.numbers c.self.invariant c.args.new c.put_new.new.numbers c.put_new.ensures.rising c.put_new.ensures.alike)

pub returns : goal.returns
returns c =
    placed_is c ∙ sym (shown_put c.self.inside.printed c.args.new c.self.invariant.sorted) ∙ ap (λ l. in_order printed_cmp (put l c.args.new)) c.self.view_is

pub put_in-requires-clause-room : goal.put_in-requires-clause-room
put_in-requires-clause-room c = let here = ap length c.self.view_is in omega (arith, here, c.requires.room)
