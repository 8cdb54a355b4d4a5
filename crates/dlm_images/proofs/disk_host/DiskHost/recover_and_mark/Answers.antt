use Rattle.std.proofs.Common.{◌∙◌, ap}
use Rattle.dlm_images.specs.Operations.{Standing}
use Rattle.dlm_images.proofs.Counting.{recovered_and_marked}
use Rattle.dlm_images.proofs.disk_host.DiskHost.recover_and_mark.Goals as goal

pub returns-in-Ok-clause-marked : goal.returns-in-Ok-clause-marked
returns-in-Ok-clause-marked g c =
    let both =
    recovered_and_marked g.D.Disk.gives c.args.tries c.mark_slots-marked.result c.learned-first.result c.learned-end.result c.args.self.now c.recover-recovered.new.self c.mark_slots-marked.new.self
    c.learned-first.ensures c.learned-end.ensures c.recover-recovered.ensures.keeps c.recover-recovered.ensures.operated (c.recover-recovered.ensures.calls c.recover-recovered.ensures.operated) c.mark_slots-marked.ensures in
    (both.0, ap (λ (s : Standing g.row.D.Denot). s.core.said) both.1 ∙ c.in-Ok.ensures.told)

pub returns-in-Err-clause-refused : goal.returns-in-Err-clause-refused
returns-in-Err-clause-refused g c =
    let both =
    recovered_and_marked g.D.Disk.gives c.args.tries c.mark_slots-marked.result c.learned-first.result c.learned-end.result c.args.self.now c.recover-recovered.new.self c.mark_slots-marked.new.self
    c.learned-first.ensures c.learned-end.ensures c.recover-recovered.ensures.keeps c.recover-recovered.ensures.operated (c.recover-recovered.ensures.calls c.recover-recovered.ensures.operated) c.mark_slots-marked.ensures in
    (c.mark_slots-marked.result, (both.0, ap (λ (s : Standing g.row.D.Denot). s.core.said) both.1 ∙ c.in-Err.ensures.refused))
