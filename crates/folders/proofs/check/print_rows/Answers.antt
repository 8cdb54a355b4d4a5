use Rattle.std.proofs.Common.{◌≡◌, ℕ, arith, subst}
use Rattle.std.specs.Prelude.{◌↔◌, ◌⊎◌, IsTrue}
use Rattle.std.specs.Io.KnownBytes.{Appends}
use Rattle.folders.specs.Damage.{rows_text, IsDamagedBelow}
use Rattle.folders.proofs.Damage.{none_looked, one_slot_more}
use Rattle.std.proofs.lemmas.Result.{err_from_is_err_and}
use Rattle.folders.proofs.Reading.{LeadsOn, none_told, told_here, fails_here, all_told}
use Rattle.folders.proofs.check.print_rows.Goals as goal

pub loop-slot-init : goal.loop-slot-init
loop-slot-init g c =
    record {
      looked = none_looked (g.D.Disk.device c.args.device.now) (g.O.Write.contents c.args.out.now) c.args.disk c.args.any.now (g.D.Disk.state c.args.device.now);
      reads = none_told g.D.Disk.gives c.args.boot.number c.args.slots c.args.device.now;
    }

pub loop-slot-preserved : goal.loop-slot-preserved
loop-slot-preserved g c =
    record {
      looked = one_slot_more (g.D.Disk.device c.args.device.now) (g.D.Disk.device c.loop-slot.device) (g.D.Disk.device c.print_row.new.device)
          (g.O.Write.contents c.args.out.now) (g.O.Write.contents c.loop-slot.out) (g.O.Write.contents c.print_row.new.out) c.args.disk c.loop-slot.slot c.args.any.now c.loop-slot.any c.in_ok-damaged.damaged
          (g.D.Disk.state c.args.device.now) (g.D.Disk.state c.loop-slot.device) (g.D.Disk.state c.print_row.new.device)
          c.loop-slot.invariant.looked c.print_row.ensures.device c.print_row.ensures.unchanged c.in_ok-damaged.ensures.text c.in_ok-damaged.ensures.found;
      reads = told_here g.D.Disk.gives c.args.boot.number c.args.slots c.args.device.now c.loop-slot.slot c.loop-slot.device c.print_row.new.device c.loop-slot-test.true c.loop-slot.invariant.reads c.in_ok-damaged.ensures.read;
    }

pub returns-clause-text : goal.returns-clause-text
returns-clause-text g c = λ tells.
    let all : c.loop-slot.slot ≡ c.args.slots = omega arith in
    subst (λ (n : ℕ). Appends (g.O.Write.contents c.args.out.now) (g.O.Write.contents c.loop-slot.out) (rows_text c.args.disk n (g.D.Disk.state c.args.device.now).bytes)) all
    (c.loop-slot.invariant.looked.text tells)

pub returns-clause-found : goal.returns-clause-found
returns-clause-found g c = λ tells.
    let all : c.loop-slot.slot ≡ c.args.slots = omega arith in
    subst (λ (n : ℕ). IsTrue c.loop-slot.any ↔ (IsTrue c.args.any.now ⊎ IsDamagedBelow n (g.D.Disk.state c.args.device.now).bytes)) all (c.loop-slot.invariant.looked.found tells)

pub returns-in_err-damaged-clause-device_fault : goal.returns-in_err-damaged-clause-device_fault
returns-in_err-damaged-clause-device_fault g c =
    let p = err_from_is_err_and c.from_residual.result c.from_residual.ensures.1 in
    rw (p.1, p.2)
    (fails_here g.D.Disk.gives c.args.boot.number c.args.slots c.args.device.now c.in_err-damaged.field-0.0 c.loop-slot.slot c.loop-slot.device c.print_row.new.device c.loop-slot-test.true c.loop-slot.invariant.reads
    c.in_err-damaged.ensures.device_fault)

pub returns-clause-whole : goal.returns-clause-whole
returns-clause-whole g c =
    let all : c.loop-slot.slot ≡ c.args.slots = omega arith in
    all_told g.D.Disk.gives c.args.boot.number c.args.slots c.args.device.now c.loop-slot.device
    (subst (λ (n : ℕ). LeadsOn g.D.Disk.gives c.args.boot.number n c.args.slots c.args.device.now c.loop-slot.device) all c.loop-slot.invariant.reads)
