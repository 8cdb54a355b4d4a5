use Rattle.c_epochs.proofs.Found.{own_so}
use Rattle.c_epochs.proofs.images.header_of.Goals as goal

pub returns-clause-own : goal.returns-clause-own
returns-clause-own c = own_so c.args.disk c.long_of.result c.args.image.now.bytes c.used_header.result c.used_header.ensures.right
