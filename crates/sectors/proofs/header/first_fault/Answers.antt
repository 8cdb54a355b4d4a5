use Rattle.std.proofs.Common.{◌≡◌, ◌==◌, ◌∙◌, ◌-◌, ℕ, true, List, length, take, drop, sym, ap, subst, arith, length-drop}
use Rattle.std.specs.List.{list_all}
use Rattle.std.proofs.lemmas.Bool.{iff_false, both_ways}
use Rattle.std.proofs.lemmas.List.{take_rest}
use Rattle.paxos_block.specs.Saying.{zeros}
use Rattle.paxos_block.proofs.SayingLemmas.{zero_tells, zero_since}
use Rattle.sectors.specs.declared.fault.DeviceFault.TheVariants.{WrongVersion, WrongDisk, WrongSlots, WrongSectorSize, WrongParts, WrongHosts, WrongWrites, WrongRest, TooShort}
use Rattle.sectors.specs.declared.header.DeviceHeader.{DeviceHeader}
use Rattle.endless_image.specs.Kinds.{IsSlotsBy}
use Rattle.sectors.specs.Geometry.{IsSectorSize, IsHostCount, device_size}
use Rattle.sectors.specs.Headers.{IsNamed, IsRight, header_in}
use Rattle.sectors.proofs.Faults.{told, at_version, at_disk, at_slots, at_size, at_parts, at_hosts, at_writes, at_rest, at_room}
use Rattle.sectors.proofs.HeaderLaws.{right_by, right_lacks}
use Rattle.sectors.proofs.header.first_fault.Goals as goal

-- the bytes behind the fields, as the call is given them
tail_is : (bytes : List ℕ) → length bytes ≡ 4096 → take (4096 - 23) (drop 23 bytes) ≡ drop 23 bytes
tail_is bytes long = ap (λ (n : ℕ). take (n - 23) (drop 23 bytes)) (sym long) ∙ take_rest bytes 23

tail_zeros : (bytes : List ℕ) → length bytes ≡ 4096 → drop 23 bytes ≡ zeros (4096 - 23) → list_all (λ b. b == 0) (take (4096 - 23) (drop 23 bytes)) ≡ true
tail_zeros bytes long is = ap (list_all (λ b. b == 0)) (tail_is bytes long ∙ is) ∙ zero_since (4096 - 23)

zeros_there : (bytes : List ℕ) → length bytes ≡ 4096 → list_all (λ b. b == 0) (take (4096 - 23) (drop 23 bytes)) ≡ true → drop 23 bytes ≡ zeros (4096 - 23)
zeros_there bytes long all =
    let many : length (drop 23 bytes) ≡ 4096 - 23 = omega (arith, long, length-drop 23 bytes) in
    zero_tells (drop 23 bytes) (ap (list_all (λ b. b == 0)) (sym (tail_is bytes long)) ∙ all) ∙ ap zeros many

pub returns-then-not-is_version-clause-told : goal.returns-then-not-is_version-clause-told
returns-then-not-is_version-clause-told c =
    told c.args.disk c.args.long c.args.bytes.now WrongVersion
    (at_version c.args.disk c.args.long c.args.bytes.now c.if-bytes-ne-OPEN_GATE.false)
    (λ is. iff_false c.is_version.ensures c.if-not-is_version.true is)

pub returns-then-not-is_named-clause-told : goal.returns-then-not-is_named-clause-told
returns-then-not-is_named-clause-told c =
    told c.args.disk c.args.long c.args.bytes.now WrongDisk
    (at_disk c.args.disk c.args.long c.args.bytes.now c.if-bytes-ne-OPEN_GATE.false (c.is_version.ensures.0 c.if-not-is_version.false))
    (λ is. iff_false c.is_named.ensures c.if-not-is_named.true (subst (IsNamed c.args.disk) (sym c.requires) is))

pub returns-then-not-is_slot_count-clause-told : goal.returns-then-not-is_slot_count-clause-told
returns-then-not-is_slot_count-clause-told c =
    told c.args.disk c.args.long c.args.bytes.now WrongSlots
    (at_slots c.args.disk c.args.long c.args.bytes.now c.if-bytes-ne-OPEN_GATE.false (c.is_version.ensures.0 c.if-not-is_version.false) (subst (IsNamed c.args.disk) c.requires (c.is_named.ensures.0 c.if-not-is_named.false)))
    (λ is. iff_false c.is_slot_count.ensures c.if-not-is_slot_count.true (subst (λ (h : DeviceHeader). IsSlotsBy h.geometry.kind h.geometry.slots) (sym c.requires) is))

pub returns-then-not-is_sector_size-clause-told : goal.returns-then-not-is_sector_size-clause-told
returns-then-not-is_sector_size-clause-told c =
    told c.args.disk c.args.long c.args.bytes.now WrongSectorSize
    (at_size c.args.disk c.args.long c.args.bytes.now c.if-bytes-ne-OPEN_GATE.false (c.is_version.ensures.0 c.if-not-is_version.false) (subst (IsNamed c.args.disk) c.requires (c.is_named.ensures.0 c.if-not-is_named.false)) (subst (λ (h : DeviceHeader). IsSlotsBy h.geometry.kind h.geometry.slots) c.requires (c.is_slot_count.ensures.0 c.if-not-is_slot_count.false)))
    (λ is. iff_false c.is_sector_size.ensures c.if-not-is_sector_size.true (subst (λ (h : DeviceHeader). IsSectorSize h.geometry.sector_size) (sym c.requires) is))

pub returns-then-bytes-ne-PARTS-clause-told : goal.returns-then-bytes-ne-PARTS-clause-told
returns-then-bytes-ne-PARTS-clause-told c =
    told c.args.disk c.args.long c.args.bytes.now WrongParts
    (at_parts c.args.disk c.args.long c.args.bytes.now c.if-bytes-ne-OPEN_GATE.false (c.is_version.ensures.0 c.if-not-is_version.false) (subst (IsNamed c.args.disk) c.requires (c.is_named.ensures.0 c.if-not-is_named.false)) (subst (λ (h : DeviceHeader). IsSlotsBy h.geometry.kind h.geometry.slots) c.requires (c.is_slot_count.ensures.0 c.if-not-is_slot_count.false)) (subst (λ (h : DeviceHeader). IsSectorSize h.geometry.sector_size) c.requires (c.is_sector_size.ensures.0 c.if-not-is_sector_size.false)))
    c.if-bytes-ne-PARTS.true

pub returns-then-not-is_host_count-clause-told : goal.returns-then-not-is_host_count-clause-told
returns-then-not-is_host_count-clause-told c =
    told c.args.disk c.args.long c.args.bytes.now WrongHosts
    (at_hosts c.args.disk c.args.long c.args.bytes.now c.if-bytes-ne-OPEN_GATE.false (c.is_version.ensures.0 c.if-not-is_version.false) (subst (IsNamed c.args.disk) c.requires (c.is_named.ensures.0 c.if-not-is_named.false)) (subst (λ (h : DeviceHeader). IsSlotsBy h.geometry.kind h.geometry.slots) c.requires (c.is_slot_count.ensures.0 c.if-not-is_slot_count.false)) (subst (λ (h : DeviceHeader). IsSectorSize h.geometry.sector_size) c.requires (c.is_sector_size.ensures.0 c.if-not-is_sector_size.false)) c.if-bytes-ne-PARTS.false)
    (λ is. iff_false c.is_host_count.ensures c.if-not-is_host_count.true (subst (λ (h : DeviceHeader). IsHostCount h.geometry.hosts) (sym c.requires) is))

pub returns-then-bytes-gt1-clause-told : goal.returns-then-bytes-gt1-clause-told
returns-then-bytes-gt1-clause-told c =
    told c.args.disk c.args.long c.args.bytes.now WrongWrites
    (at_writes c.args.disk c.args.long c.args.bytes.now c.if-bytes-ne-OPEN_GATE.false (c.is_version.ensures.0 c.if-not-is_version.false) (subst (IsNamed c.args.disk) c.requires (c.is_named.ensures.0 c.if-not-is_named.false)) (subst (λ (h : DeviceHeader). IsSlotsBy h.geometry.kind h.geometry.slots) c.requires (c.is_slot_count.ensures.0 c.if-not-is_slot_count.false)) (subst (λ (h : DeviceHeader). IsSectorSize h.geometry.sector_size) c.requires (c.is_sector_size.ensures.0 c.if-not-is_sector_size.false)) c.if-bytes-ne-PARTS.false (subst (λ (h : DeviceHeader). IsHostCount h.geometry.hosts) c.requires (c.is_host_count.ensures.0 c.if-not-is_host_count.false)))
    c.if-bytes-gt1.true

pub returns-then-not-are_zeros-clause-told : goal.returns-then-not-are_zeros-clause-told
returns-then-not-are_zeros-clause-told c =
    told c.args.disk c.args.long c.args.bytes.now WrongRest
    (at_rest c.args.disk c.args.long c.args.bytes.now c.if-bytes-ne-OPEN_GATE.false (c.is_version.ensures.0 c.if-not-is_version.false) (subst (IsNamed c.args.disk) c.requires (c.is_named.ensures.0 c.if-not-is_named.false)) (subst (λ (h : DeviceHeader). IsSlotsBy h.geometry.kind h.geometry.slots) c.requires (c.is_slot_count.ensures.0 c.if-not-is_slot_count.false)) (subst (λ (h : DeviceHeader). IsSectorSize h.geometry.sector_size) c.requires (c.is_sector_size.ensures.0 c.if-not-is_sector_size.false)) c.if-bytes-ne-PARTS.false (subst (λ (h : DeviceHeader). IsHostCount h.geometry.hosts) c.requires (c.is_host_count.ensures.0 c.if-not-is_host_count.false)) c.if-bytes-gt1.false)
    (λ is. both_ways c.are_zeros.result c.if-not-are_zeros.true (c.are_zeros.ensures ∙ tail_zeros c.args.bytes.now c.told-bytes is))

pub returns-then-long-device_size-clause-told : goal.returns-then-long-device_size-clause-told
returns-then-long-device_size-clause-told c =
    told c.args.disk c.args.long c.args.bytes.now TooShort
    (at_room c.args.disk c.args.long c.args.bytes.now c.if-bytes-ne-OPEN_GATE.false (c.is_version.ensures.0 c.if-not-is_version.false) (subst (IsNamed c.args.disk) c.requires (c.is_named.ensures.0 c.if-not-is_named.false)) (subst (λ (h : DeviceHeader). IsSlotsBy h.geometry.kind h.geometry.slots) c.requires (c.is_slot_count.ensures.0 c.if-not-is_slot_count.false)) (subst (λ (h : DeviceHeader). IsSectorSize h.geometry.sector_size) c.requires (c.is_sector_size.ensures.0 c.if-not-is_sector_size.false)) c.if-bytes-ne-PARTS.false (subst (λ (h : DeviceHeader). IsHostCount h.geometry.hosts) c.requires (c.is_host_count.ensures.0 c.if-not-is_host_count.false)) c.if-bytes-gt1.false (zeros_there c.args.bytes.now c.told-bytes (sym c.are_zeros.ensures ∙ c.if-not-are_zeros.false)))
    (omega (arith, c.if-long-device_size.true, c.device_size.ensures, ap (λ (h : DeviceHeader). device_size h.geometry) c.requires))

right : (c : goal.Else-long-device_size) → IsRight c.args.disk c.args.long c.args.bytes.now (header_in c.args.bytes.now)
right c =
    right_by c.args.bytes.now c.told-bytes (λ i. omega (arith, c.fits-bytes i)) c.args.disk c.args.long c.if-bytes-ne-OPEN_GATE.false (c.is_version.ensures.0 c.if-not-is_version.false) (subst (IsNamed c.args.disk) c.requires (c.is_named.ensures.0 c.if-not-is_named.false)) (subst (λ (h : DeviceHeader). IsSlotsBy h.geometry.kind h.geometry.slots) c.requires (c.is_slot_count.ensures.0 c.if-not-is_slot_count.false)) (subst (λ (h : DeviceHeader). IsSectorSize h.geometry.sector_size) c.requires (c.is_sector_size.ensures.0 c.if-not-is_sector_size.false)) c.if-bytes-ne-PARTS.false (subst (λ (h : DeviceHeader). IsHostCount h.geometry.hosts) c.requires (c.is_host_count.ensures.0 c.if-not-is_host_count.false)) c.if-bytes-gt1.false
    (zeros_there c.args.bytes.now c.told-bytes (sym c.are_zeros.ensures ∙ c.if-not-are_zeros.false)) (omega (arith, c.if-long-device_size.false, c.device_size.ensures, ap (λ (h : DeviceHeader). device_size h.geometry) c.requires))

pub returns-clause-none : goal.returns-clause-none
returns-clause-none c = right c

pub returns-clause-told : goal.returns-clause-told
returns-clause-told c = λ fault. ((λ e. absurd cc), (λ first. absurd (right_lacks c.args.disk c.args.long c.args.bytes.now (header_in c.args.bytes.now) (right c) fault first.has)))
