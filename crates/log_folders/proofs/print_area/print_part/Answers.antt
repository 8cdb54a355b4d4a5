use Rattle.std.proofs.Common.{◌≡◌, ◌∙◌, refl, ap, subst, inl}
use Rattle.std.specs.Io.KnownBytes.{Appends}
use Rattle.std.proofs.lemmas.Result.{err_from_is_err_and}
use Rattle.log_folders.specs.Areas.{IsHitIn, damaged_in, lines_of, part_text}
use Rattle.log_folders.proofs.Hits.{part_kept, part_printed}
use Rattle.log_folders.proofs.Steps.{kept_still}
use Rattle.log_folders.proofs.print_area.print_part.Goals as goal

pub returns-in_err-row-clause-keeps : goal.returns-in_err-row-clause-keeps
returns-in_err-row-clause-keeps g c =
    kept_still (g.D.Disk.device c.args.device.now) (g.D.Disk.device c.read_part.new.device) (g.D.Disk.state c.args.device.now) (g.D.Disk.state c.read_part.new.device) c.args.any.now
    (IsHitIn c.args.area.slots c.args.area.area c.args.part c.args.shown.now) c.read_part.ensures.device c.read_part.ensures.unchanged

pub returns-in_err-found-clause-keeps : goal.returns-in_err-found-clause-keeps
returns-in_err-found-clause-keeps g c =
    kept_still (g.D.Disk.device c.args.device.now) (g.D.Disk.device c.read_part.new.device) (g.D.Disk.state c.args.device.now) (g.D.Disk.state c.read_part.new.device) c.args.any.now
    (IsHitIn c.args.area.slots c.args.area.area c.args.part c.args.shown.now) c.read_part.ensures.device c.read_part.ensures.unchanged

pub returns-clause-keeps : goal.returns-clause-keeps
returns-clause-keeps g c =
    part_kept c.args.area.slots c.args.area.area c.args.part c.args.shown.now c.damaged_blocks-damaged.result c.in_ok-row.row
    (g.D.Disk.device c.args.device.now) (g.D.Disk.device c.read_part.new.device) (g.D.Disk.state c.args.device.now) (g.D.Disk.state c.read_part.new.device) c.args.any.now c.in_ok-found.found
    c.in_ok-row.ensures.row c.damaged_blocks-damaged.ensures.each c.in_ok-found.ensures.found c.read_part.ensures.device c.read_part.ensures.unchanged

pub returns-clause-prints : goal.returns-clause-prints
returns-clause-prints g c =
    let area = c.args.area in
    let shown = c.args.shown.now in
    let bytes = (g.D.Disk.state c.args.device.now).bytes in
    let a = g.O.Write.contents c.args.out.now in
    let b = g.O.Write.contents c.print_lines.new.out in
    part_printed area.slots area.area c.args.part shown c.damaged_blocks-damaged.result c.in_ok-row.row
    (g.D.Disk.device c.args.device.now) (g.D.Disk.device c.read_part.new.device) (g.D.Disk.state c.args.device.now) (g.D.Disk.state c.read_part.new.device) c.args.any.now c.in_ok-found.found
    c.in_ok-row.ensures.row c.damaged_blocks-damaged.ensures.each c.in_ok-found.ensures.found
    a b (λ bytes text. text ≡ part_text area c.args.part shown bytes)
    (λ t.
    let same : lines_of area c.args.part shown c.damaged_blocks-damaged.result ≡ part_text area c.args.part shown bytes =
    ap (lines_of area c.args.part shown) (c.damaged_blocks-damaged.ensures.exact ∙ ap (damaged_in c.args.part) (c.in_ok-row.ensures.row t)) in
    (part_text area c.args.part shown bytes, refl, subst (Appends a b) same c.in_ok-found.ensures.text))

pub returns-clause-whole : goal.returns-clause-whole
returns-clause-whole g c = (c.read_part.new.device, c.in_ok-row.ensures.read, refl)

pub returns-in_err-row-clause-device_fault : goal.returns-in_err-row-clause-device_fault
returns-in_err-row-clause-device_fault g c =
    let p = err_from_is_err_and c.from_residual.result c.from_residual.ensures.1 in
    rw (p.1, p.2) (inl c.in_err-row.ensures.device_fault)
