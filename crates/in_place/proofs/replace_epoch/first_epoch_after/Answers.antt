use Rattle.std.proofs.Common.{◌≤◌, ◌+◌, ◌*◌, ℕ, ap, arith}
use Rattle.in_place.specs.Replacing.{how_many}
use Rattle.in_place.proofs.Replaced.{takes_part}
use Rattle.in_place.proofs.replace_epoch.first_epoch_after.Goals as goal

pub returns-clause-first : goal.returns-clause-first
returns-clause-first c =
    let value = c.how_many_told.ensures.value in
    let least = c.if-how_many_told-disks.false in
    let half : c.args.disks ≤ 2 * how_many c.args.told.now c.args.disks = omega (arith, value, least) in
    takes_part c.args.told.now c.args.disks (c.newest_told-newest.result + 2) (ap (λ (n : ℕ). n + 2) c.newest_told-newest.ensures) half
