use Rattle.std.proofs.Common.{sym, ◌∙◌}
use Rattle.lock_table.proofs.valued.store_by.Goals as goal

pub store-requires-clause-room : goal.store-requires-clause-room
store-requires-clause-room c = c.requires.room c.in-Some.new (sym c.entry_by.ensures ∙ c.in-Some.is)
