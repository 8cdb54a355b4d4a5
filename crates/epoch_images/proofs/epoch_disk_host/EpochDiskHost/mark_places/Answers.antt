use Rattle.std.proofs.Common.{◌≡◌, ◌+◌, ◌-◌, ◌∙◌, ℕ, Bool, sym, ap, subst, arith, if◌then◌else◌}
use Rattle.epoch_images.specs.Marking.{MarksFrom}
use Rattle.epoch_images.proofs.Marking.{marked_none, marked_further}
use Rattle.epoch_images.proofs.epoch_disk_host.EpochDiskHost.mark_places.Goals as goal
use Rattle.epoch_images.proofs.epoch_disk_host.EpochDiskHost.mark_places.Goals.{then-leaves_a_mark, else-leaves_a_mark}

pub loop-place-init : goal.loop-place-init
loop-place-init g c = record { marks = marked_none g.D.Disk.gives c.args.first _ _ (omega arith); few = omega arith; within = omega arith }

pub loop-place-preserved : goal.loop-place-preserved
loop-place-preserved g c =
    let now = c.loop-place.self in
    let new = c.leaves_a_mark.new.self in
    let had = c.loop-place.marked in
    let done = c.leaves_a_mark.ensures in
    elim c.if-leaves_a_mark.branch [
      | then-leaves_a_mark w ↦
          (let is : c.if-leaves_a_mark.marked ≡ had + (if c.leaves_a_mark.result then 1 else 0) = w.marked-is ∙ ap (λ (b : Bool). had + (if b then 1 else 0)) (sym w.if-leaves_a_mark.true) in
          record {
            marks = marked_further g.D.Disk.gives c.args.first c.loop-place.place had _ done.0 c.leaves_a_mark.result _ now new (omega arith) c.loop-place.invariant.marks done.1 done.2 is;
            few = omega (arith, w.marked-is);
            within = omega arith;
          })
      | else-leaves_a_mark w ↦
          (let none : had ≡ had + 0 = omega arith in
          let is : c.if-leaves_a_mark.marked ≡ had + (if c.leaves_a_mark.result then 1 else 0) = w.marked-is ∙ none ∙ ap (λ (b : Bool). had + (if b then 1 else 0)) (sym w.if-leaves_a_mark.false) in
          record {
            marks = marked_further g.D.Disk.gives c.args.first c.loop-place.place had _ done.0 c.leaves_a_mark.result _ now new (omega arith) c.loop-place.invariant.marks done.1 done.2 is;
            few = omega (arith, w.marked-is);
            within = omega arith;
          })
    ]

pub returns : goal.returns
returns g c =
    let last : c.loop-place.place - c.args.first ≡ c.args.end - c.args.first = omega arith in
    subst (λ (n : ℕ). MarksFrom g.D.Disk.gives c.args.first n c.loop-place.marked c.args.self.now c.loop-place.self) last c.loop-place.invariant.marks
