use Rattle.std.proofs.Common.{◌∙◌, ℕ, ap}
use Rattle.std.specs.Prelude.{slice_index}
use Rattle.std.proofs.lemmas.List.{take_rest}
use Rattle.byteorder.specs.Endian.{big_number}
use Rattle.paxos_block.specs.Saying.{number_at}
use Rattle.paxos_block.specs.Headers.{short_at}
use Rattle.endless_image.specs.declared.header.EndlessHeader.{EndlessHeader}
use Rattle.endless_image.specs.Headers.{header_in}
use Rattle.endless_image.proofs.header.header_in.Goals as goal

abbrev made : ℕ → ℕ → ℕ → ℕ → ℕ → EndlessHeader
made disk disks slots cluster epoch = record { disk = disk; disks = disks; slots = slots; cluster = cluster; first_epoch = epoch }

pub returns : goal.returns
unfolding header_in number_at short_at
returns c =
    let slots = c.short_in.ensures ∙ ap (big_number 4) (take_rest c.args.bytes.now 4) in
    let cluster = c.number_in.ensures ∙ ap (big_number 8) (take_rest c.args.bytes.now 8) in
    let epoch = c.number_in-2.ensures ∙ ap (big_number 8) (take_rest c.args.bytes.now 16) in
    λ i. made (slice_index c.args.bytes.now 2) (slice_index c.args.bytes.now 3) (slots i) (cluster i) (epoch i)
