use Rattle.std.proofs.Common.{◌≡◌, take}
use Rattle.std.specs.List.{count_by}
use Rattle.sectors.specs.Owners.{says}
use Rattle.sectors.proofs.owner.count_of.Given as goal

abbrev pub invariant-loop-one : goal.invariant-loop-one
invariant-loop-one l = l.count ≡ count_by (says l.name) (take l.one-index l.said)
