use Rattle.std.proofs.Common.{◌<◌, ap, arith}
use Rattle.std.specs.Option.{option_map}
use Rattle.std.proofs.lemmas.List.{get_or-replicate}
use Rattle.paxos_block.specs.Saying.{said_as}
use Rattle.phases.specs.declared.visit.TheConstants.{UNSEEN}
use Rattle.phases.specs.Notes.{no_visit}
use Rattle.phases.proofs.Starting.{starts_with}
use Rattle.phases.proofs.one_attempt.Attempt.new.Goals as goal

pub returns-clause-leads : goal.returns-clause-leads
returns-clause-leads g c =
    let spelled = g.L.Layout.spelled in
    starts_with (record { version = g.L.Layout.version; host = c.args.host; slot = c.args.slot; disks = c.args.disks; floor = c.args.floor; input = option_map spelled c.args.input }) _ (said_as spelled c.blank.result) (said_as spelled c.blank-2.result)
    (ap (said_as spelled) c.blank.ensures) (ap (said_as spelled) c.blank-2.ensures) c.requires.some
    (λ e l. (let below : e < 7 = omega arith in get_or-replicate 7 e UNSEEN no_visit below))
