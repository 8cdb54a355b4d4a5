use Rattle.std.proofs.Common.{◌≡◌, take}
use Rattle.std.specs.Option.{is_some}
use Rattle.std.specs.List.{count_by}
use Rattle.sectors.proofs.owner.heard_in.Given as goal

abbrev pub invariant-loop-one : goal.invariant-loop-one
invariant-loop-one l = l.heard ≡ count_by is_some (take l.one-index l.said)
