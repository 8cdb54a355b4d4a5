use Rattle.std.proofs.Common.{Result, sym, subst}
use Rattle.std.specs.Prelude.{IsTrue, OnOk}
use Rattle.disk.specs.declared.fault.ImageFault.{ImageFault}
use Rattle.paxos_block.specs.declared.header.Header.{Header}
use Rattle.folders.specs.Damage.{WritesTextOf}
use Rattle.folders.specs.Reading.{CannotBeRead}
use Rattle.folders.proofs.check.check_image.Goals as goal

pub returns-in-Ok-clause-text : goal.returns-in-Ok-clause-text
returns-in-Ok-clause-text g c =
    let old = c.args.device.now in
    subst
    (λ (image : Result Header ImageFault). OnOk c.check_disk.result (IsTrue (g.D.Disk.device old).tells → WritesTextOf image c.args.disk c.args.slots (g.D.Disk.state old).bytes (CannotBeRead g.D.Disk.gives c.args.slots old c.check_disk.new.device) (g.O.Write.contents c.args.out.now) (g.O.Write.contents c.check_disk.new.out)))
    (sym c.in-Ok.is) c.check_disk.ensures.text
