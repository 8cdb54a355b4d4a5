use Rattle.std.proofs.Common.{ℕ, ◌∙◌, ◌++◌, ◌∷◌, [], Option, Some, sym, subst, ap}
use Rattle.std.proofs.Math.ListN.{set}
use Rattle.disk.specs.Simulated.{SimState, outcome}
use Rattle.torn_block.specs.Layout.{cluster_version}
use Rattle.attempt.specs.DeviceCalls.{device_call_of, call_of_need, IsWithin}
use Rattle.migration.specs.Events.{Step, run}
use Rattle.migration.specs.Kept.{device_answer}
use Rattle.migration.specs.Running.{LeadsTo}
use Rattle.migration.specs.declared.notes.Notes.{Notes}
use Rattle.migration.proofs.Stepping.{brings_none, none_stepped, none_due, over_due, due_next, disk_below, disk_is, long_disk, steps}
use Rattle.migration.proofs.running.Running.step.Goals as goal

pub returns-in_default : goal.returns-in_default
returns-in_default c s events leads =
    let old = c.args.self.now in
    brings_none s events Step old.migrator old.disks.items (none_stepped s (run s events) (none_due s events old.migrator old.disks.items c.in_default.is leads)) leads

pub returns-then-is_some : goal.returns-then-is_some
returns-then-is_some c s events leads =
    let sims = c.args.self.now.disks.items in
    let here = subst (λ (m : Option Notes). LeadsTo s events m sims) c.in-Some.is leads in
    brings_none s events Step (Some c.in-Some.migrator) sims
    (none_stepped s (run s events) (over_due s events c.in-Some.migrator sims here c.end.result (c.end.ensures.end s) (sym c.is_some.ensures ∙ c.if-is_some.true))) here

pub answer_of-heard-requires : goal.answer_of-heard-requires
answer_of-heard-requires c =
    let need = c.call-need.result in
    let sims = c.args.self.now.disks.items in
    let r = c.requires in
    let here = subst (λ (m : Option Notes). LeadsTo r.setup r.events m sims) c.in-Some.is r.leads in
    subst (λ (k : ℕ). IsWithin cluster_version k need.call) (long_disk r.setup r.events c.in-Some.migrator sims here need.disk c.from.result c.index_mut.result.now c.from.ensures c.call-need.ensures.disk c.index_mut.ensures.value) c.call-need.ensures.range

pub returns : goal.returns
returns c s events leads =
    let need = c.call-need.result in
    let call = device_call_of cluster_version need.call in
    let sims = c.args.self.now.disks.items in
    let n = c.in-Some.migrator in
    let here = subst (λ (m : Option Notes). LeadsTo s events m sims) c.in-Some.is leads in
    let below = disk_below s events n sims here need.disk c.call-need.ensures.disk in
    let stood = disk_is s (run s events) sims need.disk c.from.result c.index_mut.result.now here.shows c.from.ensures below c.index_mut.ensures.value in
    let due = due_next s events n sims here (call_of_need cluster_version need) (c.call-need.ensures.next s) in
    subst (λ (k : ℕ). LeadsTo s (events ++ Step ∷ []) (Some c.hear.new.self) (set sims k c.answer_of-heard.new.disk)) (sym c.from.ensures)
    (steps s events n sims here need.disk call due below c.answer_of-heard.new.disk (device_answer c.answer_of-heard.result) (c.answer_of-heard.ensures.gave ∙ ap (λ (x : SimState). outcome x call) stood) c.hear.new.self
    (c.hear.ensures.leads s here.comes.answers here.comes.leads))
