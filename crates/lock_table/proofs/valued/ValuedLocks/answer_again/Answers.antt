use Rattle.std.proofs.Common.{◌≡◌, subst}
use Rattle.lock_table.specs.Stored.{Valued, value_in}
use Rattle.lock_table.specs.Values.{of_locked}
use Rattle.lock_index.specs.Printed.{printed_cmp}
use Rattle.lock_table.specs.Picture.{HasZeros}
use Rattle.lock_index.specs.Placed.{in_order}
use Rattle.lock_table.proofs.Entries.{valued_values, valued_zeros}
use Rattle.lock_index.proofs.Shown.{shown_sorted}
use Rattle.lock_table.proofs.valued.ValuedLocks.answer_again.Goals as goal

pub returns-clause-printed : goal.returns-clause-printed
returns-clause-printed c = subst (λ (v : Valued). in_order printed_cmp v.locks ≡ v.locks) c.self.view_is (shown_sorted c.self.inside.locks c.printed.ensures.sorted)

pub returns-clause-zeros : goal.returns-clause-zeros
returns-clause-zeros c = subst (λ (v : Valued). HasZeros v.locks (value_in v.entries)) c.self.view_is (valued_zeros c.self.inside.locks c.self.inside.values c.self.invariant)

pub returns-clause-values : goal.returns-clause-values
returns-clause-values c = subst (λ (v : Valued). value_in v.entries ≡ of_locked v.locks (value_in v.entries)) c.self.view_is (valued_values c.self.inside.locks c.self.inside.values c.self.invariant)
