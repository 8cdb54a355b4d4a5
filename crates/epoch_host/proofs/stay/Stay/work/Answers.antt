use Rattle.epoch_host.proofs.Leading.{work_on}
use Rattle.epoch_host.proofs.Staying.{rests_in, work_sound}
use Rattle.epoch_host.proofs.stay.Stay.work.Goals as goal

pub returns-clause-sound : goal.returns-clause-sound
returns-clause-sound c = work_sound c.args.self.now c.requires.sound c.requires.rests c.begin.new.self c.args.task c.begin.ensures c.requires.spelled c.requires.room c.requires.comes c.requires.submits c.requires.before

pub returns-clause-leads : goal.returns-clause-leads
returns-clause-leads c k h deeds led =
    work_on k h deeds c.args.self.now led c.begin.new.self c.args.task c.requires.rests (rests_in c.args.self.now c.requires.sound c.requires.rests).idle c.begin.ensures c.requires.spelled
    c.requires.may c.requires.asked c.requires.room c.requires.submits
