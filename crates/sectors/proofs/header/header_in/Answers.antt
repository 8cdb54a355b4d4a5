use Rattle.std.proofs.Common.{◌∙◌, ◌==◌, ℕ, ap}
use Rattle.std.specs.Prelude.{slice_index}
use Rattle.std.proofs.lemmas.List.{take_rest}
use Rattle.byteorder.specs.Endian.{big_number}
use Rattle.paxos_block.specs.Saying.{number_at}
use Rattle.paxos_block.specs.Headers.{short_at}
use Rattle.sectors.specs.declared.header.DeviceHeader.{DeviceHeader}
use Rattle.endless_image.specs.declared.kind.Kind.{Kind}
use Rattle.sectors.specs.Headers.{header_in}
use Rattle.sectors.proofs.header.header_in.Goals as goal

abbrev made : ℕ → ℕ → ℕ → ℕ → ℕ → Kind → ℕ → ℕ → DeviceHeader
made disk disks cluster size hosts kind slots writes =
    record { disk = disk; disks = disks; cluster = cluster; geometry = record { sector_size = size; hosts = hosts; kind = kind; slots = slots }; dsync = writes == 1 }

pub returns : goal.returns
unfolding header_in number_at short_at
returns c =
    let cluster = c.number_in.ensures ∙ ap (big_number 8) (take_rest c.args.bytes.now 8) in
    let size = c.short_in.ensures ∙ ap (big_number 4) (take_rest c.args.bytes.now 16) in
    let kind = c.kind_by.ensures in
    let slots = c.short_in-2.ensures ∙ ap (big_number 4) (take_rest c.args.bytes.now 4) in
    λ i. made (slice_index c.args.bytes.now 2) (slice_index c.args.bytes.now 3) (cluster i) (size i) (slice_index c.args.bytes.now 21) (kind i) (slots i) (slice_index c.args.bytes.now 22)
