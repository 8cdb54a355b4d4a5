use Rattle.std.specs.Prelude.{is_some}
use Rattle.std.proofs.Common.{ℕ, ◌∙◌, ◌++◌, ◌∷◌, [], Option, None, sym, subst, ap}
use Rattle.std.proofs.Math.ListN.{set}
use Rattle.disk.specs.Simulated.{SimState, failed_by, refusal_of}
use Rattle.torn_block.specs.Layout.{cluster_version}
use Rattle.attempt.specs.DeviceCalls.{device_call_of, call_of_need, IsWithin}
use Rattle.migration.specs.Events.{Tear, run}
use Rattle.migration.specs.Running.{LeadsTo}
use Rattle.migration.specs.declared.notes.Notes.{Notes}
use Rattle.migration.proofs.Stepping.{brings_none, none_torn, none_due, over_due, due_next, disk_below, disk_is, long_disk, no_bytes, some_bytes, no_write_tears, refused_tears, tears_so}
use Rattle.migration.proofs.running.Running.tear.Goals as goal

pub returns-in_default : goal.returns-in_default
returns-in_default c s events leads =
    let old = c.args.self.now in
    let e = Tear c.args.given.now in
    brings_none s events e old.migrator old.disks.items (none_torn s (run s events) c.args.given.now (none_due s events old.migrator old.disks.items c.in_default.is leads)) leads

pub returns-then-is_some : goal.returns-then-is_some
returns-then-is_some c s events leads =
    let old = c.args.self.now in
    let here = subst (λ (m : Option Notes). LeadsTo s events m old.disks.items) c.in-Some.is leads in
    brings_none s events (Tear c.args.given.now) old.migrator old.disks.items
    (none_torn s (run s events) c.args.given.now (over_due s events c.in-Some.migrator old.disks.items here c.end.result (c.end.ensures.end s) (sym c.is_some.ensures ∙ c.if-is_some.true))) leads

pub returns-then-is_empty : goal.returns-then-is_empty
returns-then-is_empty c s events leads =
    let old = c.args.self.now in
    brings_none s events (Tear c.args.given.now) old.migrator old.disks.items (no_bytes c.args.given.now _ (sym c.is_empty.ensures ∙ c.if-is_empty.true)) leads

pub returns-then-not-is_write : goal.returns-then-not-is_write
returns-then-not-is_write c s events leads =
    let old = c.args.self.now in
    let need = c.call-need.result in
    let here = subst (λ (m : Option Notes). LeadsTo s events m old.disks.items) c.in-Some.is leads in
    let due = due_next s events c.in-Some.migrator old.disks.items here (call_of_need cluster_version need) (c.call-need.ensures.next s) in
    brings_none s events (Tear c.args.given.now) old.migrator old.disks.items
    (no_write_tears s (run s events) need.disk (device_call_of cluster_version need.call) due c.args.given.now (sym c.is_write.ensures ∙ c.if-not-is_write.true)) leads

pub returns-then-is_refused : goal.returns-then-is_refused
returns-then-is_refused c s events leads =
    let old = c.args.self.now in
    let need = c.call-need.result in
    let call = device_call_of cluster_version need.call in
    let here = subst (λ (m : Option Notes). LeadsTo s events m old.disks.items) c.in-Some.is leads in
    let below = disk_below s events c.in-Some.migrator old.disks.items here need.disk c.call-need.ensures.disk in
    let stood = disk_is s (run s events) old.disks.items need.disk c.from-at.result c.index.result.now here.shows c.from-at.ensures below c.index.ensures in
    let due = due_next s events c.in-Some.migrator old.disks.items here (call_of_need cluster_version need) (c.call-need.ensures.next s) in
    brings_none s events (Tear c.args.given.now) old.migrator old.disks.items
    (refused_tears s (run s events) need.disk call due c.args.given.now
    (ap (λ (x : SimState). is_some (refusal_of x.disk call)) (sym stood) ∙ sym c.is_refused.ensures ∙ c.if-is_refused.true)) leads

pub spoil-requires-clause-range : goal.spoil-requires-clause-range
spoil-requires-clause-range c =
    let need = c.call-need.result in
    let sims = c.args.self.now.disks.items in
    let r = c.requires in
    let here = subst (λ (m : Option Notes). LeadsTo r.setup r.events m sims) c.in-Some.is r.leads in
    subst (λ (k : ℕ). IsWithin cluster_version k need.call) (long_disk r.setup r.events c.in-Some.migrator sims here need.disk c.from-at.result c.index_mut.result.now c.from-at.ensures c.call-need.ensures.disk c.index_mut.ensures.value) c.call-need.ensures.range

pub returns : goal.returns
returns c s events leads =
    let need = c.call-need.result in
    let call = device_call_of cluster_version need.call in
    let given = c.args.given.now in
    let sims = c.args.self.now.disks.items in
    let n = c.in-Some.migrator in
    let here = subst (λ (m : Option Notes). LeadsTo s events m sims) c.in-Some.is leads in
    let below = disk_below s events n sims here need.disk c.call-need.ensures.disk in
    let stood = disk_is s (run s events) sims need.disk c.from-at.result c.index_mut.result.now here.shows c.from-at.ensures below c.index_mut.ensures.value in
    let looked = disk_is s (run s events) sims need.disk c.from-at.result c.index.result.now here.shows c.from-at.ensures below c.index.ensures in
    let due = due_next s events n sims here (call_of_need cluster_version need) (c.call-need.ensures.next s) in
    subst (λ (k : ℕ). LeadsTo s (events ++ Tear given ∷ []) None (set sims k c.spoil.new.disk)) (sym c.from-at.ensures)
    (tears_so s events n sims here need.disk call due below given (some_bytes given (sym c.is_empty.ensures ∙ c.if-is_empty.false)) (sym c.is_write.ensures ∙ c.if-not-is_write.false) (ap (λ (x : SimState). is_some (refusal_of x.disk call)) (sym looked) ∙ sym c.is_refused.ensures ∙ c.if-is_refused.false)
    c.spoil.new.disk (c.spoil.ensures ∙ ap (λ (x : SimState). record x { disk = failed_by x.disk call given }) stood))
