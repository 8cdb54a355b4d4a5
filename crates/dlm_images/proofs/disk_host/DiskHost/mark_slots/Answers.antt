use Rattle.std.proofs.Common.{◌≡◌, ◌+◌, ◌-◌, ◌∙◌, ℕ, Bool, length, refl, sym, ap, subst, arith, if◌then◌else◌}
use Rattle.dlm_images.specs.Marking.{HasMarkedFrom, leaves_a_mark}
use Rattle.dlm_images.proofs.Counting.{marked_none, marked_further, as_many}
use Rattle.dlm_images.proofs.disk_host.DiskHost.mark_slots.Goals as goal
use Rattle.dlm_images.proofs.disk_host.DiskHost.mark_slots.Goals.{then-leaves_a_mark, else-leaves_a_mark}

pub loop-slot-init : goal.loop-slot-init
loop-slot-init g c = record { marks = marked_none g.D.Disk.gives c.args.first _ _ (omega arith); disks = refl; few = omega arith }

pub loop-slot-preserved : goal.loop-slot-preserved
loop-slot-preserved g c =
    let now = c.loop-slot.self in
    let new = c.leaves_a_mark.new.self in
    let had = c.loop-slot.marked in
    let done = c.leaves_a_mark.ensures.marked in
    let disks : length new.disks ≡ length c.args.self.now.disks = as_many g.D.Disk.gives now.disks new.disks done.made done.gave ∙ c.loop-slot.invariant.disks in
    elim c.if-leaves_a_mark.branch [
      | then-leaves_a_mark w ↦
          (let is : c.if-leaves_a_mark.marked ≡ had + (if leaves_a_mark new.core.said then 1 else 0) =
          w.marked-is ∙ ap (λ (b : Bool). had + (if b then 1 else 0)) (sym w.if-leaves_a_mark.true ∙ c.leaves_a_mark.ensures.told) in
          record {
            marks = marked_further g.D.Disk.gives c.args.first c.loop-slot.slot had _ _ now new (omega arith) c.loop-slot.invariant.disks c.loop-slot.invariant.marks done c.leaves_a_mark.ensures.kept c.leaves_a_mark.ensures.calls is;
            disks = disks;
            few = omega (arith, w.marked-is);
          })
      | else-leaves_a_mark w ↦
          (let none : had ≡ had + 0 = omega arith in
          let is : c.if-leaves_a_mark.marked ≡ had + (if leaves_a_mark new.core.said then 1 else 0) =
          w.marked-is ∙ none ∙ ap (λ (b : Bool). had + (if b then 1 else 0)) (sym w.if-leaves_a_mark.false ∙ c.leaves_a_mark.ensures.told) in
          record {
            marks = marked_further g.D.Disk.gives c.args.first c.loop-slot.slot had _ _ now new (omega arith) c.loop-slot.invariant.disks c.loop-slot.invariant.marks done c.leaves_a_mark.ensures.kept c.leaves_a_mark.ensures.calls is;
            disks = disks;
            few = omega (arith, w.marked-is);
          })
    ]

pub returns : goal.returns
returns g c =
    let last : c.loop-slot.slot ≡ c.args.end = omega arith in
    subst (λ (k : ℕ). HasMarkedFrom g.D.Disk.gives c.args.first (k - c.args.first) c.loop-slot.marked c.args.self.now c.loop-slot.self) last c.loop-slot.invariant.marks
