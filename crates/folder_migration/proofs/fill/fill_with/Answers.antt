use Rattle.std.proofs.Common.{◌≡◌, ◌<◌, ◌≤◌, Some, length, arith, refl, rules, sym, ◌∙◌}
use Rattle.attempt.specs.declared.refusal.Refusal.TheVariants as refusal
use Rattle.host.specs.declared.answer.HostAnswer.TheVariants as answer
use Rattle.folder_migration.specs.Filling.{EndsRefused, none, acknowledged, full}
use Rattle.folder_migration.specs.declared.old_log.TheConstants.{TRIES}
use Rattle.folder_migration.proofs.Filling.{goes, is_full, is_one_more, still_over, tries_used}
use Rattle.folder_migration.proofs.fill.fill_with.Goals as goal

pub loop-host-init : goal.loop-host-init
loop-host-init g c = record { submits = none; over = c.requires.over; same = c.requires.host; grown = omega arith }

pub loop-host-smaller-in-Ok : goal.loop-host-smaller-in-Ok
loop-host-smaller-in-Ok g c =
    let old = c.loop-host.host in
    let new = c.submit_patiently.new.host in
    let w = goes g.D.Disk.gives c.args.command.now TRIES c.args.config old new c.loop-host.invariant.over c.submit_patiently.ensures.tried in
    let more : length old.core.prefix < length new.core.prefix =
    is_one_more c.args.config.slots (length old.core.prefix) (length new.core.prefix) c.in-Ok.field-0.slot c.in-Ok.field-0.reply new.core.said c.in-Ok.ensures.told w.told in
    omega (arith, more, c.loop-host-test.true, c.learned.ensures)

pub loop-host-preserved-in-Ok : goal.loop-host-preserved-in-Ok
loop-host-preserved-in-Ok g c =
    let old = c.loop-host.host in
    let new = c.submit_patiently.new.host in
    let at = c.loop-host.invariant in
    let tried = c.submit_patiently.ensures.tried in
    let w = goes g.D.Disk.gives c.args.command.now TRIES c.args.config old new at.over tried in
    let more : length old.core.prefix < length new.core.prefix =
    is_one_more c.args.config.slots (length old.core.prefix) (length new.core.prefix) c.in-Ok.field-0.slot c.in-Ok.field-0.reply new.core.said c.in-Ok.ensures.told w.told in
    record {
      submits = acknowledged c.loop-host.count old new at.submits tried c.in-Ok.field-0.slot c.in-Ok.field-0.reply c.in-Ok.ensures.acknowledged;
      over = still_over g.D.Disk.gives c.args.command.now TRIES c.args.config old new at.over tried;
      same = at.same ∙ sym w.same;
      grown = omega (arith, at.grown, more);
    }

pub loop-host-smaller : goal.loop-host-smaller
loop-host-smaller g c =
    let old = c.loop-host.host in
    let new = c.submit_patiently.new.host in
    let w = goes g.D.Disk.gives c.args.command.now TRIES c.args.config old new c.loop-host.invariant.over c.submit_patiently.ensures.tried in
    let said : new.core.said ≡ Some (answer.Refused refusal.LogFull) = search rules in
    let full : c.args.config.slots ≤ length new.core.prefix = is_full c.args.config.slots (length old.core.prefix) (length new.core.prefix) new.core.said said w.told in
    omega (arith, full, c.loop-host-test.true, c.learned.ensures, c.slots-slots.ensures.value)

pub loop-host-preserved : goal.loop-host-preserved
loop-host-preserved g c =
    let old = c.loop-host.host in
    let new = c.submit_patiently.new.host in
    let at = c.loop-host.invariant in
    let tried = c.submit_patiently.ensures.tried in
    let w = goes g.D.Disk.gives c.args.command.now TRIES c.args.config old new at.over tried in
    let said : new.core.said ≡ Some (answer.Refused refusal.LogFull) = search rules in
    record {
      submits = full c.loop-host.count old new at.submits tried said;
      over = still_over g.D.Disk.gives c.args.command.now TRIES c.args.config old new at.over tried;
      same = at.same ∙ sym w.same;
      grown = omega (arith, at.grown, w.grows);
    }

pub returns-in-Err : goal.returns-in-Err
returns-in-Err g c =
    let refused = c.in-Err.refusal in
    let used = tries_used g.D.Disk.gives c.args.command.now TRIES c.loop-host.host c.submit_patiently.new.host c.submit_patiently.result refused c.in-Err.is c.submit_patiently.ensures.tried c.submit_patiently.ensures.outrun in
    let not_full : ¬ (refused ≡ refusal.LogFull) = search rules in
    let ends : EndsRefused g.D.Disk.gives c.args.command.now refused c.args.host.now c.submit_patiently.new.host =
    record {
      count = c.loop-host.count;
      before = c.loop-host.host;
      submits = c.loop-host.invariant.submits;
      tried = used.0;
      said = c.in-Err.ensures.refused;
      not_full = not_full;
      outrun = used.1;
    } in
    record { submits = tt; full = tt; refused = (refused, refl, ends) }
