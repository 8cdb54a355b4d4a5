use Rattle.std.proofs.Common.{◌+◌, ◌∙◌, ℕ, ap, subst, slice_range}
use Rattle.disk.specs.Disk.{Read, Told}
use Rattle.folders.proofs.Damage.{read_keeps, read_tells}
use Rattle.log_folders.proofs.area.read_part.Goals as goal

pub returns-clause-unchanged : goal.returns-clause-unchanged
returns-clause-unchanged g c = λ tells.
    read_keeps (g.D.Disk.state c.args.device.now) (g.D.Disk.state c.read.new.self) c.args.boot.number c.place_of.result 4096 c.read.result c.read.new.into (c.read.ensures.step tells)

pub returns-clause-row : goal.returns-clause-row
returns-clause-row g c = λ tells.
    let old = g.D.Disk.state c.args.device.now in
    read_tells old (g.D.Disk.state c.read.new.self) c.args.boot.number c.place_of.result 4096 c.in_ok-read.field-0 c.read.new.into (c.in_ok-read.ensures.step tells)
    ∙ ap (λ (at : ℕ). slice_range old.bytes at (at + 4096)) c.place_of.ensures

pub returns-clause-read : goal.returns-clause-read
returns-clause-read g c =
    let tells = λ (at : ℕ). g.D.Disk.gives c.args.device.now (Read c.args.boot.number at 4096) (Told c.read.new.into) c.read.new.self in
    (c.read.new.into, subst tells c.place_of.ensures c.in_ok-read.ensures.gives)
