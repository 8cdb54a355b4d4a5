use Rattle.std.proofs.Common.{◌≡◌, not, Some, refl, ap, ◌∙◌}
use Rattle.lock_command.specs.Locks.{is_lock, lock_in}
use Rattle.lock_index.proofs.Shown.{indexed_filter, numbers_find, numbers_distinct}
use Rattle.lock_index.proofs.index.Index.take_away.Goals as goal

pub take_away-requires-clause-distinct : goal.take_away-requires-clause-distinct
take_away-requires-clause-distinct c = numbers_distinct c.self.inside.printed c.self.inside.numbers c.self.invariant

pub take_away-requires-clause-there : goal.take_away-requires-clause-there
take_away-requires-clause-there c =
    let own = c.args.own in
    let there : lock_in c.self.inside.numbers own.lock ≡ Some own =
    numbers_find c.self.inside.printed c.self.inside.numbers c.self.invariant own.lock ∙ ap (λ l. lock_in l own.lock) c.self.view_is ∙ c.requires.there in
    rw there refl

pub invariant_of-self : goal.invariant_of-self
invariant_of-self c =
    rw (c.take_out.ensures.items, c.take_away.ensures.items)
    (indexed_filter c.self.inside.printed c.self.inside.numbers c.self.invariant (λ r. not (is_lock c.args.own.lock r)))
