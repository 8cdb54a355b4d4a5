use Rattle.std.proofs.Common.{◌<◌, length, arith}
use Rattle.std.proofs.lemmas.Option.{slice_get_within}
use Rattle.epoch_host.proofs.Carrying.{clients_spelled, next_client}
use Rattle.epoch_host.proofs.carried.clients_read_back.Goals as goal

pub loop-at-preserved : goal.loop-at-preserved
loop-at-preserved c = next_client c.args.clients.now c.loop-at.at c.index-clients-at.result c.index-clients-at.is c.client_reads_back.ensures c.loop-at.invariant

pub returns : goal.returns
returns c =
    clients_spelled c.args.clients.now
    (λ k known is. c.loop-at.invariant k known (let less : k < length c.args.clients.now = slice_get_within c.args.clients.now k known is in omega (arith, less)) is)
