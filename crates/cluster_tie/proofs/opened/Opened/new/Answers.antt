use Rattle.cluster_tie.proofs.Steps.{opens}
use Rattle.cluster_tie.proofs.opened.Opened.new.Goals as goal

pub of_words-requires : goal.of_words-requires
of_words-requires c = opens c.args.disks
