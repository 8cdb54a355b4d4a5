use Rattle.coming.proofs.Going.{hears_boot, hears_fault}
use Rattle.coming.proofs.notes.Notes.hear.Goals as goal

pub returns-in-Booted-clause-keeps : goal.returns-in-Booted-clause-keeps
returns-in-Booted-clause-keeps c past kept =
    hears_boot c.args.self.now c.requires.sound c.requires.going past kept c.args.heard.now _ c.in-Booted.is c.requires.fits c.hear.new.self c.hear.ensures.step

pub returns-in-Fault-clause-keeps : goal.returns-in-Fault-clause-keeps
returns-in-Fault-clause-keeps c past kept = hears_fault c.args.self.now c.requires.sound c.requires.going past kept c.args.heard.now _ c.in-Fault.is
