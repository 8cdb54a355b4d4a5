use Rattle.sectors.proofs.PlaceLaws.{row_found}
use Rattle.std.proofs.Common.{arith}
use Rattle.sectors.proofs.place.row_at.Goals as goal

pub returns-clause-some : goal.returns-clause-some
returns-clause-some c =
    row_found c.args.geometry.now c.args.at c.row_size.result c.row_size.ensures c.if-at-ne0.false c.if-row-eq0.false (omega (arith, c.if-row-from.false, c.from.ensures))
