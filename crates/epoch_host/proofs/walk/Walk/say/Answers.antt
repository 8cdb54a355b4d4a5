use Rattle.std.proofs.Common.{refl}
use Rattle.epoch_host.proofs.Ending.{says_goes}
use Rattle.epoch_host.proofs.Moving.{same_place}
use Rattle.epoch_host.proofs.Walking.{rests_sound}
use Rattle.epoch_host.proofs.walk.Walk.say.Goals as goal

pub returns-clause-sound : goal.returns-clause-sound
returns-clause-sound c =
    let s = c.requires.stays in rests_sound c.args.self.now _ s.0 c.requires.few (record { host = refl; config = refl; looks = refl }) s.1 s.2 refl s.3.2.0

pub returns-clause-leads : goal.returns-clause-leads
returns-clause-leads c = same_place c.args.self.now _ refl refl refl

pub returns-clause-task : goal.returns-clause-task
returns-clause-task c =
    let s = c.requires.stays in
    says_goes c.args.self.now.task c.args.self.now _ c.args.said s.0 c.in-In.stay c.answer_in.result s.1 c.in-In.is s.2 s.3 c.answer_in.ensures refl refl refl
