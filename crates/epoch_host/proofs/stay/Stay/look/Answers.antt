use Rattle.std.proofs.Common.{length, refl, subst}
use Rattle.host.specs.declared.task.Task.{Task}
use Rattle.host.specs.declared.task.Task.TheVariants as task
use Rattle.epoch_host.specs.Working.{HasRoom}
use Rattle.epoch_host.proofs.Leading.{look_on}
use Rattle.epoch_host.proofs.Staying.{look_sound, rests_in}
use Rattle.epoch_host.proofs.stay.Stay.look.Goals as goal

pub returns-clause-sound : goal.returns-clause-sound
returns-clause-sound c =
    let s = c.args.self.now in
    look_sound s c.requires.sound c.requires.rests c.begin.new.self task.Look c.begin.ensures tt
    (subst (λ (t : Task). HasRoom t (length s.core.prefix) s.config.slots) (c.requires.sound.looks c.requires.looks).0 c.requires.room) refl

pub returns-clause-leads : goal.returns-clause-leads
returns-clause-leads c k h deeds led =
    let s = c.args.self.now in
    look_on k h deeds s led c.begin.new.self task.Look c.requires.rests (rests_in s c.requires.sound c.requires.rests).idle c.begin.ensures tt refl
