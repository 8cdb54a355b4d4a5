use Rattle.std.proofs.Common.{◌≡◌, ◌≤◌, ◌++◌, ◌∙◌, ℕ, List, Some, length, take, drop, slice_get, sym, subst, ap}
use Rattle.epoch_host.specs.Walking.{MayBegin}
use Rattle.dlm_images.proofs.Driving.{written_back}
use Rattle.epoch_images.specs.Working.{HasWorked, Standing, room_of, said_of}
use Rattle.epoch_images.proofs.Doing.{ended_so, fits_so, refused_so, rests_then, there_so, worked_as}
use Rattle.epoch_images.proofs.epoch_disk_host.EpochDiskHost.carry_out.Goals as goal

pub drive-requires-clause-may : goal.drive-requires-clause-may
drive-requires-clause-may g c = subst (λ (s : Standing g.row.D.Denot). MayBegin s.host.host c.args.task) (sym c.self.view_is) c.requires

pub drive-requires-clause-as_many : goal.drive-requires-clause-as_many
drive-requires-clause-as_many g c = ap length c.deref_mut.ensures.value ∙ c.self.invariant.as_many

pub drive-requires-clause-large : goal.drive-requires-clause-large
drive-requires-clause-large g c =
    subst (λ (ds : List g.row.D.Denot). (k : ℕ) (d : g.row.D.Denot) → slice_get ds k ≡ Some d → room_of c.self.inside.host.config ≤ (g.D.Disk.device d).size) (sym c.deref_mut.ensures.value)
    c.self.invariant.large

pub drive-requires-clause-config : goal.drive-requires-clause-config
drive-requires-clause-config g c = c.self.invariant.config_is

pub invariant_of-self : goal.invariant_of-self
invariant_of-self g c =
    let kept : List g.row.D.Denot = take c.self.inside.disks.len (c.drive.new.disks ++ drop (length c.drive.new.disks) c.self.inside.disks.items) in
    let kept_is : kept ≡ c.drive.new.disks = written_back c.drive.new.disks c.self.inside.disks.items c.self.inside.disks.len (c.drive.auto.disks ∙ c.deref_mut.ensures.len) in
    rests_then g.D.Disk.gives (λ d. (g.D.Disk.device d).size) c.self.inside.config c.args.task (said_of c.drive.result) (record { host = c.self.inside.host; disks = c.self.inside.disks.items; firsts = c.self.inside.firsts })
    (record { host = c.drive.new.host; disks = kept; firsts = c.self.inside.firsts }) c.self.invariant
    (worked_as g.D.Disk.gives c.args.task (said_of c.drive.result) c.self.inside.host c.drive.new.host c.self.inside.disks.items c.deref_mut.result.now c.drive.new.disks kept c.self.inside.firsts c.deref_mut.ensures.value
    kept_is c.drive.ensures.worked)
    c.drive.ensures.idle c.drive.ensures.same (ap length kept_is ∙ c.drive.auto.disks ∙ ap length c.deref_mut.ensures.value)
    (subst (λ (ds : List g.row.D.Denot). (k : ℕ) (d : g.row.D.Denot) → slice_get ds k ≡ Some d → room_of c.self.inside.host.config ≤ (g.D.Disk.device d).size) (sym kept_is) c.drive.ensures.large)

pub returns-clause-ended : goal.returns-clause-ended
returns-clause-ended g c =
    let kept : List g.row.D.Denot = take c.self.inside.disks.len (c.drive.new.disks ++ drop (length c.drive.new.disks) c.self.inside.disks.items) in
    let new : Standing g.row.D.Denot = record { host = c.drive.new.host; disks = kept; firsts = c.self.inside.firsts } in
    let worked =
    worked_as g.D.Disk.gives c.args.task (said_of c.drive.result) c.self.inside.host c.drive.new.host c.self.inside.disks.items c.deref_mut.result.now c.drive.new.disks kept c.self.inside.firsts c.deref_mut.ensures.value
    (written_back c.drive.new.disks c.self.inside.disks.items c.self.inside.disks.len (c.drive.auto.disks ∙ c.deref_mut.ensures.len)) c.drive.ensures.worked in
    ended_so g.D.Disk.gives c.args.task c.args.self.now new c.drive.result (subst (λ (s : Standing g.row.D.Denot). HasWorked g.D.Disk.gives c.args.task (said_of c.drive.result) s new) c.self.view_is worked)

pub returns-clause-fits : goal.returns-clause-fits
returns-clause-fits g c =
    let kept : List g.row.D.Denot = take c.self.inside.disks.len (c.drive.new.disks ++ drop (length c.drive.new.disks) c.self.inside.disks.items) in
    let old : Standing g.row.D.Denot = record { host = c.self.inside.host; disks = c.self.inside.disks.items; firsts = c.self.inside.firsts } in
    let new : Standing g.row.D.Denot = record { host = c.drive.new.host; disks = kept; firsts = c.self.inside.firsts } in
    let worked =
    worked_as g.D.Disk.gives c.args.task (said_of c.drive.result) c.self.inside.host c.drive.new.host c.self.inside.disks.items c.deref_mut.result.now c.drive.new.disks kept c.self.inside.firsts c.deref_mut.ensures.value
    (written_back c.drive.new.disks c.self.inside.disks.items c.self.inside.disks.len (c.drive.auto.disks ∙ c.deref_mut.ensures.len)) c.drive.ensures.worked in
    fits_so g.D.Disk.gives c.args.task old new c.self.invariant.known c.drive.result worked

pub returns-clause-there : goal.returns-clause-there
returns-clause-there g c = there_so c.drive.new.host c.drive.result c.drive.ensures.there

pub returns-clause-refused : goal.returns-clause-refused
returns-clause-refused g c =
    let kept : List g.row.D.Denot = take c.self.inside.disks.len (c.drive.new.disks ++ drop (length c.drive.new.disks) c.self.inside.disks.items) in
    let new : Standing g.row.D.Denot = record { host = c.drive.new.host; disks = kept; firsts = c.self.inside.firsts } in
    let worked =
    worked_as g.D.Disk.gives c.args.task (said_of c.drive.result) c.self.inside.host c.drive.new.host c.self.inside.disks.items c.deref_mut.result.now c.drive.new.disks kept c.self.inside.firsts c.deref_mut.ensures.value
    (written_back c.drive.new.disks c.self.inside.disks.items c.self.inside.disks.len (c.drive.auto.disks ∙ c.deref_mut.ensures.len)) c.drive.ensures.worked in
    refused_so g.D.Disk.gives c.args.task c.args.self.now new c.drive.result (subst (λ (s : Standing g.row.D.Denot). HasWorked g.D.Disk.gives c.args.task (said_of c.drive.result) s new) c.self.view_is worked)
