use Rattle.std.proofs.Common.{ℕ, List, subst, ap, ◌∙◌}
use Rattle.torn_block.specs.Layout.{cluster_version, area_place, row_length}
use Rattle.heartbeat.specs.Damage as areas
use Rattle.heartbeat.specs.Beat.{IsDamagedArea}
use Rattle.std.specs.Prelude.{◌↔◌, Contains, true}
use Rattle.folders.proofs.Damage.{read_keeps, read_tells}
use Rattle.folders.proofs.check.damage_of_area.Goals as goal

pub returns-clause-unchanged : goal.returns-clause-unchanged
returns-clause-unchanged g c = λ tells.
    read_keeps (g.D.Disk.state c.args.device.now) (g.D.Disk.state c.read.new.self) c.args.boot.number (area_place cluster_version) (row_length cluster_version) c.read.result c.read.new.into (c.read.ensures.step tells)

pub returns-clause-damaged : goal.returns-clause-damaged
returns-clause-damaged g c = λ tells.
    c.damaged_beats.ensures.exact ∙ ap areas.damaged_in (read_tells (g.D.Disk.state c.args.device.now) (g.D.Disk.state c.read.new.self) c.args.boot.number (area_place cluster_version) (row_length cluster_version) c.in_ok-read.field-0 c.read.new.into (c.in_ok-read.ensures.step tells))

pub returns-clause-some : goal.returns-clause-some
returns-clause-some g c = λ tells.
    subst (λ (l : List ℕ). Contains c.damaged_beats.result true ↔ IsDamagedArea l)
    (read_tells (g.D.Disk.state c.args.device.now) (g.D.Disk.state c.read.new.self) c.args.boot.number (area_place cluster_version) (row_length cluster_version) c.in_ok-read.field-0 c.read.new.into (c.in_ok-read.ensures.step tells))
    c.damaged_beats.ensures.area
