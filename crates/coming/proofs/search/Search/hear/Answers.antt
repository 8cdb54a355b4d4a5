use Rattle.coming.specs.declared.search.Step.TheVariants as step
use Rattle.coming.proofs.Asking.{hears_boot, sound_out, sound_step}
use Rattle.coming.proofs.search.Search.hear.Goals as goal

pub go_on-requires-clause-sound : goal.go_on-requires-clause-sound
go_on-requires-clause-sound c = sound_out c.args.self.now c.requires.sound c.requires.going

pub returns-in-Booted-clause-sound : goal.returns-in-Booted-clause-sound
returns-in-Booted-clause-sound c = sound_step c.args.self.now c.requires.sound c.requires.going (step.First c.in-Booted.boot) tt

pub returns-in-Booted-clause-keeps : goal.returns-in-Booted-clause-keeps
returns-in-Booted-clause-keeps c pasts kept = hears_boot c.args.self.now c.requires.sound c.requires.going pasts kept c.args.heard.now c.in-Booted.boot c.in-Booted.is c.requires.fits
