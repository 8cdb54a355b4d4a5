use Rattle.std.proofs.Common.{◌≡◌, ◌==◌, ◌∙◌, ◌-◌, ◌≤◌, ◌^◌, ℕ, true, List, length, take, drop, sym, ap, subst, arith, length-drop}
use Rattle.std.specs.List.{list_all}
use Rattle.std.proofs.lemmas.Bool.{iff_false, both_ways}
use Rattle.std.proofs.lemmas.List.{take_rest}
use Rattle.paxos_block.specs.Saying.{zeros}
use Rattle.paxos_block.proofs.SayingLemmas.{zero_tells, zero_since}
use Rattle.endless_image.specs.declared.fault.HeaderFault.TheVariants.{OlderVersion, NewerVersion, WrongDisk, WrongDisks, WrongSlots, WrongEpoch, Unfinished, Damaged, WrongLength}
use Rattle.endless_image.specs.declared.header.EndlessHeader.{EndlessHeader}
use Rattle.endless_image.specs.Headers.{IsAmong, IsRight, header_in}
use Rattle.endless_image.specs.Sizes.{IsSlotCount, size_of}
use Rattle.endless_image.proofs.Faults.{told, at_older, at_newer, at_disk, at_disks, at_slots, at_epoch, at_mark, at_rest, at_length}
use Rattle.endless_image.proofs.HeaderLaws.{right_by, right_lacks}
use Rattle.endless_image.proofs.header.first_fault.Goals as goal

-- the bytes behind the fields, as the call is given them
tail_is : (bytes : List ℕ) → length bytes ≡ 1024 → take (1024 - 25) (drop 25 bytes) ≡ drop 25 bytes
tail_is bytes long = ap (λ (n : ℕ). take (n - 25) (drop 25 bytes)) (sym long) ∙ take_rest bytes 25

tail_zeros : (bytes : List ℕ) → length bytes ≡ 1024 → drop 25 bytes ≡ zeros (1024 - 25) → list_all (λ b. b == 0) (take (1024 - 25) (drop 25 bytes)) ≡ true
tail_zeros bytes long is = ap (list_all (λ b. b == 0)) (tail_is bytes long ∙ is) ∙ zero_since (1024 - 25)

zeros_there : (bytes : List ℕ) → length bytes ≡ 1024 → list_all (λ b. b == 0) (take (1024 - 25) (drop 25 bytes)) ≡ true → drop 25 bytes ≡ zeros (1024 - 25)
zeros_there bytes long all =
    let many : length (drop 25 bytes) ≡ 1024 - 25 = omega (arith, long, length-drop 25 bytes) in
    zero_tells (drop 25 bytes) (ap (list_all (λ b. b == 0)) (sym (tail_is bytes long)) ∙ all) ∙ ap zeros many

pub returns-then-bytes-lt-ENDLESS_VERSION-clause-told : goal.returns-then-bytes-lt-ENDLESS_VERSION-clause-told
returns-then-bytes-lt-ENDLESS_VERSION-clause-told c =
    told c.args.disk c.args.long c.args.bytes.now OlderVersion
    (at_older c.args.disk c.args.long c.args.bytes.now c.if-bytes-ne-OPEN_GATE.false)
    c.if-bytes-lt-ENDLESS_VERSION.true

pub returns-then-bytes-gt-ENDLESS_VERSION-clause-told : goal.returns-then-bytes-gt-ENDLESS_VERSION-clause-told
returns-then-bytes-gt-ENDLESS_VERSION-clause-told c =
    told c.args.disk c.args.long c.args.bytes.now NewerVersion
    (at_newer c.args.disk c.args.long c.args.bytes.now c.if-bytes-ne-OPEN_GATE.false c.if-bytes-lt-ENDLESS_VERSION.false)
    c.if-bytes-gt-ENDLESS_VERSION.true

pub returns-then-header-disk-clause-told : goal.returns-then-header-disk-clause-told
returns-then-header-disk-clause-told c =
    told c.args.disk c.args.long c.args.bytes.now WrongDisk
    (at_disk c.args.disk c.args.long c.args.bytes.now c.if-bytes-ne-OPEN_GATE.false c.if-bytes-lt-ENDLESS_VERSION.false c.if-bytes-gt-ENDLESS_VERSION.false)
    (λ is. c.if-header-disk.true (subst (λ (h : EndlessHeader). h.disk ≡ c.args.disk) (sym c.requires) is))

pub returns-then-not-is_among-clause-told : goal.returns-then-not-is_among-clause-told
returns-then-not-is_among-clause-told c =
    told c.args.disk c.args.long c.args.bytes.now WrongDisks
    (at_disks c.args.disk c.args.long c.args.bytes.now c.if-bytes-ne-OPEN_GATE.false c.if-bytes-lt-ENDLESS_VERSION.false c.if-bytes-gt-ENDLESS_VERSION.false (subst (λ (h : EndlessHeader). h.disk ≡ c.args.disk) c.requires c.if-header-disk.false))
    (λ is. iff_false c.is_among.ensures c.if-not-is_among.true (subst (λ (h : EndlessHeader). IsAmong h.disk h.disks) (sym c.requires) is))

pub returns-then-not-is_slot_count-clause-told : goal.returns-then-not-is_slot_count-clause-told
returns-then-not-is_slot_count-clause-told c =
    told c.args.disk c.args.long c.args.bytes.now WrongSlots
    (at_slots c.args.disk c.args.long c.args.bytes.now c.if-bytes-ne-OPEN_GATE.false c.if-bytes-lt-ENDLESS_VERSION.false c.if-bytes-gt-ENDLESS_VERSION.false (subst (λ (h : EndlessHeader). h.disk ≡ c.args.disk) c.requires c.if-header-disk.false) (subst (λ (h : EndlessHeader). IsAmong h.disk h.disks) c.requires (c.is_among.ensures.0 c.if-not-is_among.false)))
    (λ is. iff_false c.is_slot_count.ensures c.if-not-is_slot_count.true (subst (λ (h : EndlessHeader). IsSlotCount h.slots) (sym c.requires) is))

pub returns-then-header-gt-LAST_EPOCH-clause-told : goal.returns-then-header-gt-LAST_EPOCH-clause-told
returns-then-header-gt-LAST_EPOCH-clause-told c =
    told c.args.disk c.args.long c.args.bytes.now WrongEpoch
    (at_epoch c.args.disk c.args.long c.args.bytes.now c.if-bytes-ne-OPEN_GATE.false c.if-bytes-lt-ENDLESS_VERSION.false c.if-bytes-gt-ENDLESS_VERSION.false (subst (λ (h : EndlessHeader). h.disk ≡ c.args.disk) c.requires c.if-header-disk.false) (subst (λ (h : EndlessHeader). IsAmong h.disk h.disks) c.requires (c.is_among.ensures.0 c.if-not-is_among.false)) (subst (λ (h : EndlessHeader). IsSlotCount h.slots) c.requires (c.is_slot_count.ensures.0 c.if-not-is_slot_count.false)))
    (omega (arith, c.if-header-gt-LAST_EPOCH.true, ap (λ (h : EndlessHeader). h.first_epoch) c.requires))

pub returns-then-bytes-ne0-clause-told : goal.returns-then-bytes-ne0-clause-told
returns-then-bytes-ne0-clause-told c =
    told c.args.disk c.args.long c.args.bytes.now Unfinished
    (at_mark c.args.disk c.args.long c.args.bytes.now c.if-bytes-ne-OPEN_GATE.false c.if-bytes-lt-ENDLESS_VERSION.false c.if-bytes-gt-ENDLESS_VERSION.false (subst (λ (h : EndlessHeader). h.disk ≡ c.args.disk) c.requires c.if-header-disk.false) (subst (λ (h : EndlessHeader). IsAmong h.disk h.disks) c.requires (c.is_among.ensures.0 c.if-not-is_among.false)) (subst (λ (h : EndlessHeader). IsSlotCount h.slots) c.requires (c.is_slot_count.ensures.0 c.if-not-is_slot_count.false)) (subst (λ (h : EndlessHeader). h.first_epoch ≤ 2 ^ 62) c.requires c.if-header-gt-LAST_EPOCH.false))
    c.if-bytes-ne0.true

pub returns-then-not-are_zeros-clause-told : goal.returns-then-not-are_zeros-clause-told
returns-then-not-are_zeros-clause-told c =
    told c.args.disk c.args.long c.args.bytes.now Damaged
    (at_rest c.args.disk c.args.long c.args.bytes.now c.if-bytes-ne-OPEN_GATE.false c.if-bytes-lt-ENDLESS_VERSION.false c.if-bytes-gt-ENDLESS_VERSION.false (subst (λ (h : EndlessHeader). h.disk ≡ c.args.disk) c.requires c.if-header-disk.false) (subst (λ (h : EndlessHeader). IsAmong h.disk h.disks) c.requires (c.is_among.ensures.0 c.if-not-is_among.false)) (subst (λ (h : EndlessHeader). IsSlotCount h.slots) c.requires (c.is_slot_count.ensures.0 c.if-not-is_slot_count.false)) (subst (λ (h : EndlessHeader). h.first_epoch ≤ 2 ^ 62) c.requires c.if-header-gt-LAST_EPOCH.false) c.if-bytes-ne0.false)
    (λ is. both_ways c.are_zeros.result c.if-not-are_zeros.true (c.are_zeros.ensures ∙ tail_zeros c.args.bytes.now c.told-bytes is))

pub returns-then-image_size-long-clause-told : goal.returns-then-image_size-long-clause-told
returns-then-image_size-long-clause-told c =
    told c.args.disk c.args.long c.args.bytes.now WrongLength
    (at_length c.args.disk c.args.long c.args.bytes.now c.if-bytes-ne-OPEN_GATE.false c.if-bytes-lt-ENDLESS_VERSION.false c.if-bytes-gt-ENDLESS_VERSION.false (subst (λ (h : EndlessHeader). h.disk ≡ c.args.disk) c.requires c.if-header-disk.false) (subst (λ (h : EndlessHeader). IsAmong h.disk h.disks) c.requires (c.is_among.ensures.0 c.if-not-is_among.false)) (subst (λ (h : EndlessHeader). IsSlotCount h.slots) c.requires (c.is_slot_count.ensures.0 c.if-not-is_slot_count.false)) (subst (λ (h : EndlessHeader). h.first_epoch ≤ 2 ^ 62) c.requires c.if-header-gt-LAST_EPOCH.false) c.if-bytes-ne0.false (zeros_there c.args.bytes.now c.told-bytes (sym c.are_zeros.ensures ∙ c.if-not-are_zeros.false)))
    (λ is. c.if-image_size-long.true (c.image_size.ensures.size ∙ ap (λ (h : EndlessHeader). size_of h.slots) c.requires ∙ is))

right : (c : goal.Else-image_size-long) → IsRight c.args.disk c.args.long c.args.bytes.now (header_in c.args.bytes.now)
right c =
    right_by c.args.bytes.now c.told-bytes (λ i. omega (arith, c.fits-bytes i)) c.args.disk c.args.long c.if-bytes-ne-OPEN_GATE.false (omega (arith, c.if-bytes-lt-ENDLESS_VERSION.false, c.if-bytes-gt-ENDLESS_VERSION.false)) (subst (λ (h : EndlessHeader). h.disk ≡ c.args.disk) c.requires c.if-header-disk.false) (subst (λ (h : EndlessHeader). IsAmong h.disk h.disks) c.requires (c.is_among.ensures.0 c.if-not-is_among.false)) (subst (λ (h : EndlessHeader). IsSlotCount h.slots) c.requires (c.is_slot_count.ensures.0 c.if-not-is_slot_count.false)) (subst (λ (h : EndlessHeader). h.first_epoch ≤ 2 ^ 62) c.requires c.if-header-gt-LAST_EPOCH.false) c.if-bytes-ne0.false (zeros_there c.args.bytes.now c.told-bytes (sym c.are_zeros.ensures ∙ c.if-not-are_zeros.false))
    (sym (ap (λ (h : EndlessHeader). size_of h.slots) c.requires) ∙ sym c.image_size.ensures.size ∙ c.if-image_size-long.false)

pub returns-clause-none : goal.returns-clause-none
returns-clause-none c = right c

pub returns-clause-told : goal.returns-clause-told
returns-clause-told c = λ fault. ((λ e. absurd cc), (λ first. absurd (right_lacks c.args.disk c.args.long c.args.bytes.now (header_in c.args.bytes.now) (right c) fault first.has)))
