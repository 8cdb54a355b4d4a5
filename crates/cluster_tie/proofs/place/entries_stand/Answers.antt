use Rattle.std.proofs.Common.{◌≡◌, ◌-◌, ◌∙◌, true, false, slice_get, ap, arith}
use Rattle.cluster_tie.proofs.Places.{stands, without}
use Rattle.cluster_tie.proofs.place.entries_stand.Goals as goal

pub returns-clause-hosts : goal.returns-clause-hosts
returns-clause-hosts c h log i x is = let s = stands 0 false h log i x is in let same : x.0 ≡ x.0 - 0 = omega arith in ap (slice_get log) same ∙ s.1

pub returns-clause-disks : goal.returns-clause-disks
returns-clause-disks c k log i x is = let s = stands 0 true k log i x is in let same : x.0 ≡ x.0 - 0 = omega arith in ap (slice_get log) same ∙ s.1

pub returns-clause-of_host : goal.returns-clause-of_host
returns-clause-of_host c h log = without 0 false h log

pub returns-clause-on_disk : goal.returns-clause-on_disk
returns-clause-on_disk c k log = without 0 true k log
