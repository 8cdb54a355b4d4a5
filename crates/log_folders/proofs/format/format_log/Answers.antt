use Rattle.std.proofs.Common.{rules}
use Rattle.log_folders.proofs.Ending.{made_ending}
use Rattle.log_folders.proofs.format.format_log.Goals as goal

pub returns-in-Ending-clause-laid_out : goal.returns-in-Ending-clause-laid_out
returns-in-Ending-clause-laid_out g c =
    made_ending c.args.set.now c.config.result c.cluster.result (search rules) c.config.ensures c.cluster.ensures c.format_folder.result c.format_folder.ensures.laid_out
