-- The room that a row takes while it is looked at.
use Rattle.std.specs.Borrow.{RattleType}
use Rattle.std.specs.Mem.{FitsInMemory}
use Rattle.paxos_block.specs.contracts.row.Row.{the_row}

-- A row with inputs of this type is no larger than memory. It is so of each layout's inputs.
abbrev pub RowFits : RattleType → Type 0
RowFits V = FitsInMemory (the_row V)
