use Rattle.epoch_host.proofs.Moving.{first_carries}
use Rattle.epoch_host.proofs.walk.over_at_first.Goals as goal

pub returns-then-epoch-eq0 : goal.returns-then-epoch-eq0
returns-then-epoch-eq0 c = first_carries c.args.epoch c.new.result c.new-then-epoch-eq0.result c.if-epoch-eq0.true c.new.ensures.items c.new-then-epoch-eq0.ensures.items
