use Rattle.std.proofs.Common.{refl, arith}
use Rattle.epoch_host.specs.declared.over.Over.TheVariants.{Unknown}
use Rattle.epoch_host.specs.declared.stay.Arrival.{Arrival}
use Rattle.epoch_host.proofs.Moving.{goes_back}
use Rattle.epoch_host.proofs.walk.Walk.go_back.Goals as goal

pub returns-clause-leads : goal.returns-clause-leads
returns-clause-leads c =
    let arrival : Arrival = record { epoch = c.saturating_sub-epoch.result; errand = c.if-self.errand; over = Unknown } in
    goes_back c.args.self.now c.enter.new.self c.in-In.stay arrival c.in-In.is (omega (arith, c.saturating_sub-epoch.ensures)) refl c.enter.ensures.enters
