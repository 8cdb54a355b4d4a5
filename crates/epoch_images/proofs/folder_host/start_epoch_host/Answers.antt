use Rattle.std.proofs.Common.{arith, subst, sym}
use Rattle.log_folders.specs.AnySets.{AreFirsts}
use Rattle.epoch_images.proofs.folder_host.start_epoch_host.Goals as goal

pub start-requires-clause-large : goal.start-requires-clause-large
start-requires-clause-large g c = λ k d is. (let long = c.args.folder.long k d is in omega (arith, long))

pub returns-clause-firsts : goal.returns-clause-firsts
returns-clause-firsts g c = subst (AreFirsts c.args.folder.found) (sym c.start.ensures.firsts) c.first_epochs-firsts.ensures
