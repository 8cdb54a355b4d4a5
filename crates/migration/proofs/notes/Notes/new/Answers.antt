use Rattle.std.proofs.Common.{replicate, [], None, refl, arith}
use Rattle.migration.specs.declared.notes.Stage.TheVariants.{Attaching}
use Rattle.migration.proofs.Going.{first_is}
use Rattle.migration.proofs.notes.Notes.new.Goals as goal

pub returns-clause-sound : goal.returns-clause-sound
returns-clause-sound c =
    let disks = c.disks-disks.ensures.range in
    let slots = c.slots-slots.ensures.range in
    record {
      room = record {
        some_disks = omega (arith, disks.0, c.disks-disks.ensures.value);
        few_disks = omega (arith, disks.1, c.disks-disks.ensures.value);
        some_slots = omega (arith, slots.0, c.slots-slots.ensures.value);
        few_slots = omega (arith, slots.1, c.slots-slots.ensures.value);
        cluster = c.ranges.cluster.fits;
        log = c.requires;
      };
      visits_one = omega (arith, disks.0, c.disks-disks.ensures.value);
      bytes = tt;
    }

pub returns-clause-first : goal.returns-clause-first
returns-clause-first c = first_is (record { config = c.args.config; cluster = c.args.cluster; log = c.args.log; disk = 0; stage = Attaching; slot = 0; boots = replicate 7 (record { number = 0 }); block = []; header = []; end = None }) refl refl refl refl (let disks = c.disks-disks.ensures.range in omega (arith, disks.0, c.disks-disks.ensures.value))
