use Rattle.std.proofs.Common.{◌≡◌, ◌≤◌, ◌<◌, ◌+◌, ◌-◌, List, length, vec_capacity, refl, arith, ap, sym, ◌∙◌, subst}
use Rattle.paxos_block.specs.Shape.{Shape}
use Rattle.folder_migration.specs.Recovery.{AreLarge}
use Rattle.folder_migration.proofs.Recovering.{at_first, as_many, called, judges_more, under_way_as}
use Rattle.folder_migration.proofs.old_log.drive.Goals as goal
use Rattle.folder_migration.proofs.old_log.drive.Goals.{in-Some, in-None}

pub loop-done-init : goal.loop-done-init
loop-done-init g c = record {
  under_way = at_first g.D.Disk.gives c.args.learner.now.shape c.args.disks.now c.args.learner.now c.args.log.now.items c.requires.few.1 c.requires.begun c.requires.empty;
  capacity = refl;
  as_many = refl;
  large = c.requires.large;
}

pub returns-then-idle-clause-fits : goal.returns-then-idle-clause-fits
returns-then-idle-clause-fits g c =
    let w = c.loop-done.invariant.under_way in
    let same = as_many c.loop-done.learner.learned c.loop-done.log.items w.stand in
    let fits = w.fits in
    omega (arith, same, fits)

pub judge-requires-clause-room : goal.judge-requires-clause-room
judge-requires-clause-room g c =
    let w = c.loop-done.invariant.under_way in
    let same = as_many c.loop-done.learner.learned c.loop-done.log.items w.stand in
    let shape : c.loop-done.learner.shape.slots ≡ c.args.learner.now.shape.slots = ap (λ (s : Shape). s.slots) w.leads.shape in
    let below : length c.loop-done.learner.learned < c.loop-done.learner.shape.slots = c.in-Some.ensures.room refl in
    omega (arith, same, shape, below, c.loop-done.invariant.capacity, c.requires.room)

pub loop-done-preserved : goal.loop-done-preserved
loop-done-preserved g c =
    let shape = c.args.learner.now.shape in
    let w = c.loop-done.invariant.under_way in
    let same_shape : c.loop-done.learner.shape ≡ shape = w.leads.shape in
    let few : shape.disks ≤ 7 = c.requires.few.0 in
    elim c.match-offered.branch [
      | in-Some b ↦
          (let below : length c.loop-done.learner.learned < shape.slots = subst (λ (s : Shape). length c.loop-done.learner.learned < s.slots) same_shape (b.in-Some.ensures.room refl) in record {
            under_way =
                under_way_as g.D.Disk.gives shape c.args.disks.now c.loop-done.disks c.match-offered.disks b.judge.new.learner c.match-offered.learner b.judge.new.log.items c.match-offered.log.items (492480 - (c.loop-done._done + 1))
                b.learner-is b.disks-is (ap (λ v. v.items) b.log-is)
                (judges_more g.D.Disk.gives shape c.args.disks.now c.loop-done.disks c.loop-done.learner b.judge.new.learner b.in-Some.value c.loop-done.log.items b.judge.new.log.items c.loop-done._done w
                (sym (b.in-Some.ensures.value shape 0 w.memory w.leads)) below b.judge.ensures.judged);
            capacity = ap (λ v. vec_capacity v) b.log-is ∙ b.judge.ensures.capacity ∙ c.loop-done.invariant.capacity;
            as_many = c.match-offered.auto.disks ∙ c.loop-done.invariant.as_many;
            large = subst (λ (ds : List g.row.D.Denot). AreLarge g.D.Disk.device shape.slots ds) (sym b.disks-is) c.loop-done.invariant.large;
          })
      | in-None b ↦
          record {
            under_way =
                under_way_as g.D.Disk.gives shape c.args.disks.now b.call.new.disks c.match-offered.disks b.call.new.learner c.match-offered.learner c.loop-done.log.items c.match-offered.log.items (492480 - (c.loop-done._done + 1))
                b.learner-is b.disks-is (ap (λ v. v.items) b.log-is)
                (called g.D.Disk.gives shape c.args.disks.now c.loop-done.disks b.call.new.disks c.loop-done.learner b.call.new.learner c.loop-done.log.items c.loop-done._done few w
                (sym (c.idle.ensures.known shape 0 w.memory w.leads) ∙ c.if-idle.false) b.call.ensures.made b.call.ensures.same.learned);
            capacity = ap (λ v. vec_capacity v) b.log-is ∙ c.loop-done.invariant.capacity;
            as_many = c.match-offered.auto.disks ∙ c.loop-done.invariant.as_many;
            large =
                subst (λ (ds : List g.row.D.Denot). AreLarge g.D.Disk.device shape.slots ds) (sym b.disks-is)
                (subst (λ (s : Shape). AreLarge g.D.Disk.device s.slots b.call.new.disks) same_shape b.call.ensures.large);
          }
    ]

pub returns-clause-fits : goal.returns-clause-fits
returns-clause-fits g c =
    let w = c.loop-done.invariant.under_way in
    let same = as_many c.loop-done.learner.learned c.loop-done.log.items w.stand in
    let fits = w.fits in
    omega (arith, same, fits)
