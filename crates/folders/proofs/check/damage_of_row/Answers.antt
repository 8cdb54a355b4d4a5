use Rattle.std.proofs.Common.{List, subst, ap, ◌∙◌, ◌+◌, ℕ, slice_range}
use Rattle.disk.specs.Disk.{Read, Told}
use Rattle.torn_block.specs.Layout.{cluster_version, row_length}
use Rattle.paxos_block.specs.Damage as rows
use Rattle.paxos_block.specs.Row.{IsDamagedRow}
use Rattle.std.specs.Prelude.{◌↔◌, Contains, true}
use Rattle.folders.proofs.Damage.{read_keeps, read_tells}
use Rattle.folders.proofs.check.damage_of_row.Goals as goal

pub returns-clause-unchanged : goal.returns-clause-unchanged
returns-clause-unchanged g c = λ tells.
    read_keeps (g.D.Disk.state c.args.device.now) (g.D.Disk.state c.read.new.self) c.args.boot.number c.row_place.result (row_length cluster_version) c.read.result c.read.new.into (c.read.ensures.step tells)

pub returns-clause-damaged : goal.returns-clause-damaged
returns-clause-damaged g c = λ tells.
    let old = g.D.Disk.state c.args.device.now in
    c.damaged_hosts.ensures.exact
    ∙ ap rows.damaged_in (read_tells old (g.D.Disk.state c.read.new.self) c.args.boot.number c.row_place.result (row_length cluster_version) c.in_ok-read.field-0 c.read.new.into (c.in_ok-read.ensures.step tells))
    ∙ ap (λ (at : ℕ). rows.damaged_in (slice_range old.bytes at (at + row_length cluster_version))) c.row_place.ensures

pub returns-clause-some : goal.returns-clause-some
returns-clause-some g c = λ tells.
    let old = g.D.Disk.state c.args.device.now in
    subst (λ (l : List ℕ). Contains c.damaged_hosts.result true ↔ IsDamagedRow cluster_version l)
    (read_tells old (g.D.Disk.state c.read.new.self) c.args.boot.number c.row_place.result (row_length cluster_version) c.in_ok-read.field-0 c.read.new.into (c.in_ok-read.ensures.step tells)
    ∙ ap (λ (at : ℕ). slice_range old.bytes at (at + row_length cluster_version)) c.row_place.ensures)
    c.damaged_hosts.ensures.row

pub returns-clause-read : goal.returns-clause-read
returns-clause-read g c =
    let tells = λ (at : ℕ). g.D.Disk.gives c.args.device.now (Read c.args.boot.number at (row_length cluster_version)) (Told c.read.new.into) c.read.new.self in
    (c.read.new.into, subst tells c.row_place.ensures c.in_ok-read.ensures.gives)
