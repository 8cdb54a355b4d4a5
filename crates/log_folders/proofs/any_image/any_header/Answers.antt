use Rattle.std.proofs.Common.{◌≡◌, ◌∙◌}
use Rattle.endless_image.specs.Kinds.{IsRightBy}
use Rattle.log_folders.specs.AnyHeaders.{IsAnyHeader, disk_in, size_in}
use Rattle.log_folders.proofs.UsedHeaders.{may_be, on_ok, own_number, own_size, reads_header, reads_none}
use Rattle.log_folders.proofs.any_image.any_header.Goals as goal

pub returns-in-Ok-clause-right : goal.returns-in-Ok-clause-right
returns-in-Ok-clause-right g c =
    on_ok (IsRightBy c.args.disk c.size-long.result c.in-Ok.bytes) IsAnyHeader c.used_header.result (may_be c.args.disk c.size-long.result c.in-Ok.bytes) c.used_header.ensures.right

pub returns-in-Ok-clause-number : goal.returns-in-Ok-clause-number
returns-in-Ok-clause-number g c =
    on_ok (IsRightBy c.args.disk c.size-long.result c.in-Ok.bytes) (λ header. disk_in header ≡ c.args.disk) c.used_header.result (own_number c.args.disk c.size-long.result c.in-Ok.bytes) c.used_header.ensures.right

pub returns-in-Ok-clause-long : goal.returns-in-Ok-clause-long
returns-in-Ok-clause-long g c =
    on_ok (IsRightBy c.args.disk c.size-long.result c.in-Ok.bytes) (λ header. size_in header ≡ (g.D.Disk.device c.args.device.now).size) c.used_header.result
    (λ header used. own_size c.args.disk c.size-long.result c.in-Ok.bytes header used ∙ c.size-long.ensures) c.used_header.ensures.right

pub returns-in-Ok-clause-told : goal.returns-in-Ok-clause-told
returns-in-Ok-clause-told g c =
    let size = (g.D.Disk.device c.args.device.now).size in
    reads_header g.D.Disk.gives c.args.device.now c.first_bytes.new.device c.args.disk size c.in-Ok.bytes c.in-Ok.ensures.told c.used_header.result (rw c.size-long.ensures at c.used_header.ensures.right)

pub returns-in-Ok-clause-fault : goal.returns-in-Ok-clause-fault
returns-in-Ok-clause-fault g c =
    let size = (g.D.Disk.device c.args.device.now).size in
    reads_none g.D.Disk.gives c.args.device.now c.first_bytes.new.device c.args.disk size c.in-Ok.bytes c.in-Ok.ensures.told c.used_header.result (rw c.size-long.ensures at c.used_header.ensures.fault)
