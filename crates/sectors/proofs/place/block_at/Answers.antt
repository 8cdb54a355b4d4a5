use Rattle.std.proofs.Common.{Option, IfNone, ◌+◌, ◌*◌, ◌/◌, ◌%◌, ℕ, sym, subst, arith}
use Rattle.sectors.specs.declared.place.SectorRange.{SectorRange}
use Rattle.sectors.specs.Places.{IsRangeAt, HasNoRangeAt}
use Rattle.sectors.proofs.PlaceLaws.{range_found, no_range}
use Rattle.sectors.proofs.place.block_at.Goals as goal

pub returns-in_err-row-clause-none : goal.returns-in_err-row-clause-none
returns-in_err-row-clause-none c =
    subst (λ (r : Option SectorRange). IfNone r (HasNoRangeAt c.args.geometry.now c.args.at c.args.long)) (sym c.from_residual.ensures)
    (no_range c.args.geometry.now c.args.at c.args.long c.requires c.in_err-row.ensures.none)

pub returns-clause-some : goal.returns-clause-some
returns-clause-some c =
    subst
    (λ (size : ℕ). IsRangeAt c.args.geometry.now c.args.at c.args.long (record { place = c.in_ok-row.row + size * (c.args.at % 4096 / 256); offset = c.args.at % 4096 % 256 }))
    (sym c.from-2.ensures)
    (range_found c.args.geometry.now c.args.at c.args.long c.in_ok-row.row c.in_ok-row.ensures.some (omega (arith, c.if-host-from.false, c.from.ensures)) c.if-long-offset.false)
