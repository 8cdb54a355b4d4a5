use Rattle.std.proofs.Common.{refl}
use Rattle.host.specs.declared.task.Task.TheVariants as task
use Rattle.epoch_host.proofs.Leading.{mark_on}
use Rattle.epoch_host.proofs.Staying.{mark_sound, rests_in}
use Rattle.epoch_host.proofs.stay.Stay.mark.Goals as goal

pub returns-clause-sound : goal.returns-clause-sound
returns-clause-sound c = mark_sound c.args.self.now c.requires.sound c.requires.rests c.mark.new.self (task.Mark c.args.slot) c.mark.ensures tt c.requires.learned c.requires.comes c.args.slot refl

pub returns-clause-leads : goal.returns-clause-leads
returns-clause-leads c k h deeds led =
    mark_on k h deeds c.args.self.now led c.mark.new.self (task.Mark c.args.slot) c.requires.rests (rests_in c.args.self.now c.requires.sound c.requires.rests).idle c.mark.ensures tt
    c.args.slot refl c.requires.learned.1
