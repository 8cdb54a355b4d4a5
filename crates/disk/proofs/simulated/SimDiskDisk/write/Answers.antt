use Rattle.std.proofs.Common.{subst, length}
use Rattle.disk.specs.Disk.{Torn}
use Rattle.disk.specs.Simulated.{SimState}
use Rattle.disk.proofs.RefusalLemmas.{admitted}
use Rattle.disk.proofs.simulated.SimDiskDisk.write.Goals as goal

pub returns-in-Some-take_failure-clause-step : goal.returns-in-Some-take_failure-clause-step
returns-in-Some-take_failure-clause-step c =
    let admitted = admitted c.args.self.now.disk c.args.boot.number c.in_default.ensures in
    let n = length c.args.from.now in
    let P : SimState → Type 0 = λ s. Torn c.args.at n s.disk c.tear.new.self.disk in
    let torn : Torn c.args.at n c.args.self.now.disk c.tear.new.self.disk = subst P c.in-Some-take_failure.ensures.2 c.tear.ensures.torn in
    λ told. (admitted.0, admitted.1, torn)
