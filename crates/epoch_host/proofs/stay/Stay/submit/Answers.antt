use Rattle.std.proofs.Common.{refl}
use Rattle.host.specs.declared.task.Task.TheVariants as task
use Rattle.epoch_host.proofs.Leading.{submit_on}
use Rattle.epoch_host.proofs.Staying.{rests_in, submit_sound}
use Rattle.epoch_host.proofs.stay.Stay.submit.Goals as goal

pub returns-clause-sound : goal.returns-clause-sound
returns-clause-sound c =
    submit_sound c.args.self.now c.requires.sound c.requires.rests c.submit.new.self (task.Submit c.args.command c.args.self.now.tries) c.submit.ensures c.requires.spelled c.requires.room
    c.requires.comes c.args.slot c.args.self.now.tries c.args.command refl c.requires.next c.requires.due

pub returns-clause-leads : goal.returns-clause-leads
returns-clause-leads c k h deeds led =
    submit_on k h deeds c.args.self.now led c.submit.new.self (task.Submit c.args.command c.args.self.now.tries) c.requires.rests (rests_in c.args.self.now c.requires.sound c.requires.rests).idle
    c.submit.ensures c.requires.spelled c.args.slot c.args.self.now.tries c.args.command refl c.requires.spelled c.requires.next c.requires.sound.tries c.requires.due
