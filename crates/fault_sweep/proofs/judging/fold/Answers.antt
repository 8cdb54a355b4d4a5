use Rattle.std.proofs.Common.{subst, sym, List, take}
use Rattle.std.proofs.lemmas.List.{take_all}
use Rattle.lock_command.specs.declared.command.Command.{Command}
use Rattle.lock_table.specs.Apply.{Plain, table_after}
use Rattle.lock_table.specs.Picture.{IsPictureOf}
use Rattle.fault_sweep.proofs.Comparing.{one_applied}
use Rattle.fault_sweep.proofs.judging.fold.Goals as goal

pub loop-command-preserved : goal.loop-command-preserved
loop-command-preserved c =
    let commands = c.args.commands.now in
    subst (λ (t : Plain). IsPictureOf c.apply.new.self t) (sym (one_applied commands c.loop-command.command-index _ c.loop-command-test.true c.command-item.is))
    (c.apply.ensures.table (table_after (take c.loop-command.command-index commands)) c.loop-command.invariant)

pub returns : goal.returns
returns c =
    subst (λ (l : List Command). IsPictureOf c.loop-command.table (table_after l)) (take_all c.loop-command.command-index c.args.commands.now c.loop-command-test.false) c.loop-command.invariant
