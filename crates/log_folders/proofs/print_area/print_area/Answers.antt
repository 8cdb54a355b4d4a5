use Rattle.std.specs.Prelude.{IsTrue}
use Rattle.std.proofs.Common.{◌≡◌, ◌+◌, ◌∷◌, [], ℕ, List, refl, subst, arith, inl}
use Rattle.std.specs.Io.KnownBytes.{Appends}
use Rattle.std.proofs.lemmas.Result.{err_from_is_err_and}
use Rattle.endless_image.specs.Sizes.{size_of}
use Rattle.log_folders.specs.declared.area.Part.TheVariants.{Standings, Heartbeats}
use Rattle.log_folders.specs.Areas.{AreInside, IsDamagedIn, SaysNumbers, damaged_in, everybody, lines_of, part_place, part_text, standings_in}
use Rattle.log_folders.specs.EndlessReading.{part_read, slot_reads}
use Rattle.log_folders.proofs.AreaSteps.{area_kept, area_printed, heartbeats_kept}
use Rattle.log_folders.proofs.Hits.{heartbeats_fit, standings_fit, standings_kept, standings_printed, still_fits}
use Rattle.log_folders.proofs.ReadCalls.{all_told, stops_first, stops_later}
use Rattle.log_folders.proofs.Steps.{kept_still}
use Rattle.log_folders.proofs.print_area.print_area.Goals as goal

pub read_part-requires : goal.read_part-requires
read_part-requires g c =
    let fits = standings_fit c.args.area.slots c.args.area.area c.requires.area in
    omega (arith, fits, c.requires.room)

pub print_part-requires : goal.print_part-requires
print_part-requires g c =
    let fits = heartbeats_fit c.args.area.slots c.args.area.area c.requires.area in
    still_fits (g.D.Disk.device c.args.device.now) (g.D.Disk.device c.read_part.new.device) (part_place c.args.area.slots c.args.area.area Heartbeats + 4096) c.read_part.ensures.device (omega (arith, fits, c.requires.room))

pub print_slots-requires-clause-room : goal.print_slots-requires-clause-room
print_slots-requires-clause-room g c =
    still_fits (g.D.Disk.device c.read_part.new.device) (g.D.Disk.device c.print_part.new.device) (size_of c.args.area.slots) c.print_part.ensures.keeps.device
    (still_fits (g.D.Disk.device c.args.device.now) (g.D.Disk.device c.read_part.new.device) (size_of c.args.area.slots) c.read_part.ensures.device c.requires.room)

pub returns-in_err-row-clause-keeps : goal.returns-in_err-row-clause-keeps
returns-in_err-row-clause-keeps g c =
    kept_still (g.D.Disk.device c.args.device.now) (g.D.Disk.device c.read_part.new.device) (g.D.Disk.state c.args.device.now) (g.D.Disk.state c.read_part.new.device) c.args.any.now
    (IsDamagedIn c.args.area.slots c.args.area.area) c.read_part.ensures.device c.read_part.ensures.unchanged

pub returns-in_err-numbers-clause-keeps : goal.returns-in_err-numbers-clause-keeps
returns-in_err-numbers-clause-keeps g c =
    kept_still (g.D.Disk.device c.args.device.now) (g.D.Disk.device c.read_part.new.device) (g.D.Disk.state c.args.device.now) (g.D.Disk.state c.read_part.new.device) c.args.any.now
    (IsDamagedIn c.args.area.slots c.args.area.area) c.read_part.ensures.device c.read_part.ensures.unchanged

pub returns-in_err-print_part-clause-keeps : goal.returns-in_err-print_part-clause-keeps
returns-in_err-print_part-clause-keeps g c =
    let area = c.args.area in
    let d0 = g.D.Disk.device c.args.device.now in
    let d1 = g.D.Disk.device c.read_part.new.device in
    let d2 = g.D.Disk.device c.print_part.new.device in
    let s0 = g.D.Disk.state c.args.device.now in
    let s1 = g.D.Disk.state c.read_part.new.device in
    let s2 = g.D.Disk.state c.print_part.new.device in
    let says : IsTrue d0.tells → SaysNumbers (standings_in area.slots area.area s0.bytes) c.in_ok-numbers.numbers =
    λ t. subst (λ (row : List ℕ). SaysNumbers row c.in_ok-numbers.numbers) (c.in_ok-row.ensures.row t) c.in_ok-numbers.ensures.numbers in
    let are : IsTrue d0.tells → AreInside area.area (standings_in area.slots area.area s0.bytes) c.inside_of-inside.result =
    λ t. c.inside_of-inside.ensures (standings_in area.slots area.area s0.bytes) (says t) in
    let one = standings_kept area.slots area.area c.in_ok-numbers.numbers d0 d1 s0 s1 c.args.any.now c.is_none.result c.is_none.ensures says c.read_part.ensures.device c.read_part.ensures.unchanged in
    heartbeats_kept area c.inside_of-inside.result d0 d1 d2 d2 s0 s1 s2 s2 c.args.any.now _ c.print_part.new.any c.print_part.new.any are one c.print_part.ensures.keeps

pub returns-in_err-print_slots-clause-keeps : goal.returns-in_err-print_slots-clause-keeps
returns-in_err-print_slots-clause-keeps g c =
    let area = c.args.area in
    let d0 = g.D.Disk.device c.args.device.now in
    let d1 = g.D.Disk.device c.read_part.new.device in
    let d2 = g.D.Disk.device c.print_part.new.device in
    let d3 = g.D.Disk.device c.print_slots.new.device in
    let s0 = g.D.Disk.state c.args.device.now in
    let s1 = g.D.Disk.state c.read_part.new.device in
    let s2 = g.D.Disk.state c.print_part.new.device in
    let s3 = g.D.Disk.state c.print_slots.new.device in
    let says : IsTrue d0.tells → SaysNumbers (standings_in area.slots area.area s0.bytes) c.in_ok-numbers.numbers =
    λ t. subst (λ (row : List ℕ). SaysNumbers row c.in_ok-numbers.numbers) (c.in_ok-row.ensures.row t) c.in_ok-numbers.ensures.numbers in
    let are : IsTrue d0.tells → AreInside area.area (standings_in area.slots area.area s0.bytes) c.inside_of-inside.result =
    λ t. c.inside_of-inside.ensures (standings_in area.slots area.area s0.bytes) (says t) in
    let one = standings_kept area.slots area.area c.in_ok-numbers.numbers d0 d1 s0 s1 c.args.any.now c.is_none.result c.is_none.ensures says c.read_part.ensures.device c.read_part.ensures.unchanged in
    area_kept area c.inside_of-inside.result d0 d1 d2 d3 s0 s1 s2 s3 c.args.any.now _ c.print_part.new.any c.print_slots.new.any are one c.print_part.ensures.keeps c.print_slots.ensures.keeps

pub returns-clause-keeps : goal.returns-clause-keeps
returns-clause-keeps g c =
    let area = c.args.area in
    let d0 = g.D.Disk.device c.args.device.now in
    let d1 = g.D.Disk.device c.read_part.new.device in
    let d2 = g.D.Disk.device c.print_part.new.device in
    let d3 = g.D.Disk.device c.print_slots.new.device in
    let s0 = g.D.Disk.state c.args.device.now in
    let s1 = g.D.Disk.state c.read_part.new.device in
    let s2 = g.D.Disk.state c.print_part.new.device in
    let s3 = g.D.Disk.state c.print_slots.new.device in
    let says : IsTrue d0.tells → SaysNumbers (standings_in area.slots area.area s0.bytes) c.in_ok-numbers.numbers =
    λ t. subst (λ (row : List ℕ). SaysNumbers row c.in_ok-numbers.numbers) (c.in_ok-row.ensures.row t) c.in_ok-numbers.ensures.numbers in
    let are : IsTrue d0.tells → AreInside area.area (standings_in area.slots area.area s0.bytes) c.inside_of-inside.result =
    λ t. c.inside_of-inside.ensures (standings_in area.slots area.area s0.bytes) (says t) in
    let one = standings_kept area.slots area.area c.in_ok-numbers.numbers d0 d1 s0 s1 c.args.any.now c.is_none.result c.is_none.ensures says c.read_part.ensures.device c.read_part.ensures.unchanged in
    area_kept area c.inside_of-inside.result d0 d1 d2 d3 s0 s1 s2 s3 c.args.any.now _ c.print_part.new.any c.print_slots.new.any are one c.print_part.ensures.keeps c.print_slots.ensures.keeps

pub returns-clause-prints : goal.returns-clause-prints
returns-clause-prints g c =
    let area = c.args.area in
    let d0 = g.D.Disk.device c.args.device.now in
    let d1 = g.D.Disk.device c.read_part.new.device in
    let d2 = g.D.Disk.device c.print_part.new.device in
    let d3 = g.D.Disk.device c.print_slots.new.device in
    let s0 = g.D.Disk.state c.args.device.now in
    let s1 = g.D.Disk.state c.read_part.new.device in
    let s2 = g.D.Disk.state c.print_part.new.device in
    let s3 = g.D.Disk.state c.print_slots.new.device in
    let a = g.O.Write.contents c.args.out.now in
    let b = g.O.Write.contents c.print_standings.new.out in
    let says : IsTrue d0.tells → SaysNumbers (standings_in area.slots area.area s0.bytes) c.in_ok-numbers.numbers =
    λ t. subst (λ (row : List ℕ). SaysNumbers row c.in_ok-numbers.numbers) (c.in_ok-row.ensures.row t) c.in_ok-numbers.ensures.numbers in
    let are : IsTrue d0.tells → AreInside area.area (standings_in area.slots area.area s0.bytes) c.inside_of-inside.result =
    λ t. c.inside_of-inside.ensures (standings_in area.slots area.area s0.bytes) (says t) in
    let one = standings_kept area.slots area.area c.in_ok-numbers.numbers d0 d1 s0 s1 c.args.any.now c.is_none.result c.is_none.ensures says c.read_part.ensures.device c.read_part.ensures.unchanged in
    let first = standings_printed area.slots area.area c.in_ok-numbers.numbers d0 d1 s0 s1 c.args.any.now c.is_none.result c.is_none.ensures says a b (λ bytes text. text ≡ part_text area Standings everybody bytes)
    (λ t. (part_text area Standings everybody s0.bytes, refl, subst (λ (row : List ℕ). Appends a b (lines_of area Standings everybody (damaged_in Standings row))) (c.in_ok-row.ensures.row t) c.in_ok-numbers.ensures.text)) in
    area_printed area c.inside_of-inside.result d0 d1 d2 d3 s0 s1 s2 s3 c.args.any.now _ c.print_part.new.any c.print_slots.new.any are one c.print_part.ensures.keeps
    a b (g.O.Write.contents c.print_part.new.out) (g.O.Write.contents c.print_slots.new.out) first c.in_ok-print_part.ensures.prints c.in_ok-print_slots.ensures.prints

pub returns-clause-numbers : goal.returns-clause-numbers
returns-clause-numbers g c = λ t. subst (λ (row : List ℕ). SaysNumbers row c.in_ok-numbers.numbers) (c.in_ok-row.ensures.row t) c.in_ok-numbers.ensures.numbers

pub returns-clause-whole : goal.returns-clause-whole
returns-clause-whole g c =
    let area = c.args.area in
    let boot = c.args.boot.number in (
      c.read_part.new.device,
      c.in_ok-row.ensures.read,
      all_told g.D.Disk.gives (part_read boot area.slots area.area Heartbeats ∷ []) (slot_reads boot area.slots area.area 0 area.slots) c.read_part.new.device c.print_part.new.device c.print_slots.new.device
          c.in_ok-print_part.ensures.whole c.in_ok-print_slots.ensures.whole,
    )

pub returns-in_err-row-clause-device_fault : goal.returns-in_err-row-clause-device_fault
returns-in_err-row-clause-device_fault g c =
    let p = err_from_is_err_and c.from_residual.result c.from_residual.ensures.1 in
    rw (p.1, p.2) (inl c.in_err-row.ensures.device_fault)

pub returns-in_err-print_part-clause-device_fault : goal.returns-in_err-print_part-clause-device_fault
returns-in_err-print_part-clause-device_fault g c =
    let area = c.args.area in
    let boot = c.args.boot.number in
    let p = err_from_is_err_and c.from_residual-in_err-print_part.result c.from_residual-in_err-print_part.ensures.1 in
    rw (p.1, p.2)
    (stops_later g.D.Disk.gives (part_read boot area.slots area.area Standings ∷ []) (part_read boot area.slots area.area Heartbeats ∷ slot_reads boot area.slots area.area 0 area.slots)
    c.args.device.now c.read_part.new.device c.print_part.new.device c.in_err-print_part.field-0.0 (c.read_part.new.device, c.in_ok-row.ensures.read, refl)
    (stops_first g.D.Disk.gives (part_read boot area.slots area.area Heartbeats ∷ []) (slot_reads boot area.slots area.area 0 area.slots) c.read_part.new.device c.print_part.new.device c.in_err-print_part.field-0.0
    c.in_err-print_part.ensures.device_fault))

pub returns-in_err-print_slots-clause-device_fault : goal.returns-in_err-print_slots-clause-device_fault
returns-in_err-print_slots-clause-device_fault g c =
    let area = c.args.area in
    let boot = c.args.boot.number in
    let p = err_from_is_err_and c.from_residual-in_err-print_slots.result c.from_residual-in_err-print_slots.ensures.1 in
    rw (p.1, p.2)
    (stops_later g.D.Disk.gives (part_read boot area.slots area.area Standings ∷ part_read boot area.slots area.area Heartbeats ∷ []) (slot_reads boot area.slots area.area 0 area.slots)
    c.args.device.now c.print_part.new.device c.print_slots.new.device c.in_err-print_slots.field-0.0
    (c.read_part.new.device, c.in_ok-row.ensures.read, c.in_ok-print_part.ensures.whole) c.in_err-print_slots.ensures.device_fault)
