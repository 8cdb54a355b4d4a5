use Rattle.std.proofs.Common.{[]}
use Rattle.folders.proofs.Laying.{on_err}
use Rattle.in_place.specs.Replacing.{EndsWithFault}
use Rattle.in_place.proofs.replace_image.put_image.Goals as goal

pub returns-in_err-put_zeros-clause-failed : goal.returns-in_err-put_zeros-clause-failed
returns-in_err-put_zeros-clause-failed g c =
    let ends = c.in_err-put_zeros.ensures.failed [] in
    on_err (EndsWithFault g.D.Disk.gives c.put_zeros.new.device) (record { last = ends.last; call = ends.call; fault = ends.fault; failed = ends.failed })
    c.from_residual-in_err-put_zeros.result
