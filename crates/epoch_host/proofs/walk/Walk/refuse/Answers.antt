use Rattle.std.proofs.Common.{refl}
use Rattle.epoch_host.proofs.Ending.{refused_goes}
use Rattle.epoch_host.proofs.Moving.{same_place}
use Rattle.epoch_host.proofs.walk.Walk.refuse.Goals as goal

pub returns-clause-leads : goal.returns-clause-leads
returns-clause-leads c = same_place c.args.self.now _ refl refl refl

pub returns-clause-task : goal.returns-clause-task
returns-clause-task c = refused_goes c.args.self.now.task c.args.self.now _ c.args.refusal refl refl refl refl refl c.requires.cause
