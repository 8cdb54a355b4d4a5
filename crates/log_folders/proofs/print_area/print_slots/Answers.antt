use Rattle.std.proofs.Common.{◌≡◌, ◌<◌, ◌+◌, ℕ, refl, subst, arith}
use Rattle.std.proofs.lemmas.Result.{err_from_is_err_and}
use Rattle.log_folders.specs.declared.area.Part.TheVariants.{Slot}
use Rattle.log_folders.specs.Areas.{IsHitBelow, part_place, slots_text}
use Rattle.log_folders.specs.Steps.{Keeps, Prints}
use Rattle.log_folders.proofs.Hits.{none_printed, slot_fits, slot_kept, slot_printed, slot_stopped, still_fits}
use Rattle.log_folders.proofs.ReadCalls.{LeadsOn, fails_here, none_told, slots_told, told_here}
use Rattle.log_folders.proofs.Steps.{kept_still}
use Rattle.log_folders.proofs.print_area.print_slots.Goals as goal

pub loop-slot-init : goal.loop-slot-init
loop-slot-init g c =
    let device = g.D.Disk.device c.args.device.now in
    let state = g.D.Disk.state c.args.device.now in
    record {
      keeps = kept_still device device state state c.args.any.now (IsHitBelow c.args.area.slots c.args.area.area c.args.shown.now 0) refl (λ t. refl);
      prints = none_printed c.args.area c.args.shown.now device state (g.O.Write.contents c.args.out.now) c.args.any.now;
      reads = none_told g.D.Disk.gives c.args.boot.number c.args.area.slots c.args.area.area c.args.device.now;
    }

pub print_part-requires : goal.print_part-requires
print_part-requires g c =
    let below : c.loop-slot.slot < c.args.area.slots = omega (arith, c.loop-slot-test.true, c.from-slot-end.ensures) in
    let fits = slot_fits c.args.area.slots c.args.area.area c.loop-slot.slot c.requires.area below in
    still_fits (g.D.Disk.device c.args.device.now) (g.D.Disk.device c.loop-slot.device) (part_place c.args.area.slots c.args.area.area (Slot c.loop-slot.slot) + 4096) c.loop-slot.invariant.keeps.device (omega (arith, fits, c.requires.room))

pub loop-slot-preserved : goal.loop-slot-preserved
loop-slot-preserved g c =
    let d0 = g.D.Disk.device c.args.device.now in
    let d1 = g.D.Disk.device c.loop-slot.device in
    let d2 = g.D.Disk.device c.print_part.new.device in
    let s0 = g.D.Disk.state c.args.device.now in
    let s1 = g.D.Disk.state c.loop-slot.device in
    let s2 = g.D.Disk.state c.print_part.new.device in
    let below : c.loop-slot.slot < c.args.area.slots = omega (arith, c.loop-slot-test.true, c.from-slot-end.ensures) in
    record {
      keeps = slot_kept c.args.area c.args.shown.now d0 d1 d2 s0 s1 s2 c.args.any.now c.loop-slot.any c.print_part.new.any c.loop-slot.slot c.loop-slot.invariant.keeps c.print_part.ensures.keeps;
      prints = slot_printed c.args.area c.args.shown.now d0 d1 d2 s0 s1 s2 c.args.any.now c.loop-slot.any c.print_part.new.any c.loop-slot.slot c.loop-slot.invariant.keeps
          (g.O.Write.contents c.args.out.now) (g.O.Write.contents c.loop-slot.out) (g.O.Write.contents c.print_part.new.out) c.loop-slot.invariant.prints c.in_ok-print_part.ensures.prints;
      reads = told_here g.D.Disk.gives c.args.boot.number c.args.area.slots c.args.area.area c.args.device.now c.loop-slot.slot c.loop-slot.device c.print_part.new.device below c.loop-slot.invariant.reads c.in_ok-print_part.ensures.whole;
    }

pub returns-in_err-print_part-clause-keeps : goal.returns-in_err-print_part-clause-keeps
returns-in_err-print_part-clause-keeps g c =
    let below : c.loop-slot.slot < c.args.area.slots = omega (arith, c.loop-slot-test.true, c.from-slot-end.ensures) in
    slot_stopped c.args.area c.args.shown.now (g.D.Disk.device c.args.device.now) (g.D.Disk.device c.loop-slot.device) (g.D.Disk.device c.print_part.new.device)
    (g.D.Disk.state c.args.device.now) (g.D.Disk.state c.loop-slot.device) (g.D.Disk.state c.print_part.new.device) c.args.any.now c.loop-slot.any c.print_part.new.any c.loop-slot.slot c.loop-slot.invariant.keeps
    c.args.area.slots below c.print_part.ensures.keeps

pub returns-in_err-print_part-clause-device_fault : goal.returns-in_err-print_part-clause-device_fault
returns-in_err-print_part-clause-device_fault g c =
    let below : c.loop-slot.slot < c.args.area.slots = omega (arith, c.loop-slot-test.true, c.from-slot-end.ensures) in
    let p = err_from_is_err_and c.from_residual.result c.from_residual.ensures.1 in
    rw (p.1, p.2)
    (fails_here g.D.Disk.gives c.args.boot.number c.args.area.slots c.args.area.area c.args.device.now c.in_err-print_part.field-0.0 c.loop-slot.slot c.loop-slot.device c.print_part.new.device below c.loop-slot.invariant.reads
    c.in_err-print_part.ensures.device_fault)

pub returns-clause-keeps : goal.returns-clause-keeps
returns-clause-keeps g c =
    let all : c.loop-slot.slot ≡ c.args.area.slots = omega (arith, c.loop-slot-test.false, c.from-slot-end.ensures) in
    subst (λ (n : ℕ). Keeps (g.D.Disk.device c.args.device.now) (g.D.Disk.device c.loop-slot.device) (g.D.Disk.state c.args.device.now) (g.D.Disk.state c.loop-slot.device) c.args.any.now c.loop-slot.any (IsHitBelow c.args.area.slots c.args.area.area c.args.shown.now n))
    all c.loop-slot.invariant.keeps

pub returns-clause-prints : goal.returns-clause-prints
returns-clause-prints g c =
    let all : c.loop-slot.slot ≡ c.args.area.slots = omega (arith, c.loop-slot-test.false, c.from-slot-end.ensures) in
    subst (λ (n : ℕ). Prints (g.D.Disk.device c.args.device.now) (g.D.Disk.state c.args.device.now) (g.O.Write.contents c.args.out.now) (g.O.Write.contents c.loop-slot.out) c.args.any.now c.loop-slot.any (λ bytes text. text ≡ slots_text c.args.area c.args.shown.now n bytes) (IsHitBelow c.args.area.slots c.args.area.area c.args.shown.now n))
    all c.loop-slot.invariant.prints

pub returns-clause-whole : goal.returns-clause-whole
returns-clause-whole g c =
    let all : c.loop-slot.slot ≡ c.args.area.slots = omega (arith, c.loop-slot-test.false, c.from-slot-end.ensures) in
    slots_told g.D.Disk.gives c.args.boot.number c.args.area.slots c.args.area.area c.args.device.now c.loop-slot.device
    (subst (λ (n : ℕ). LeadsOn g.D.Disk.gives c.args.boot.number c.args.area.slots c.args.area.area n c.args.device.now c.loop-slot.device) all c.loop-slot.invariant.reads)
