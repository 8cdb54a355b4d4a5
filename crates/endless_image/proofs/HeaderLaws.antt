-- What a header is spelled to say is read from it, and what is read where no fault has a cause is spelled so.
use Rattle.std.specs.Prelude.{◌≡◌, ◌≢◌, ◌+◌, ◌≤◌, ◌<◌, ◌^◌, ◌-◌, ◌++◌, ℕ, List, [], ◌∷◌, length, take, drop, slice_index}
use Rattle.std.proofs.Common.{refl, sym, ap, ◌∙◌, subst, arith, get_or, length-drop}
use Rattle.std.proofs.lemmas.List.{drop_at, drop-drop, take-append-drop, get_or-drop, get_or-replicate}
use Rattle.byteorder.specs.Endian.{big_number}
use Rattle.byteorder.specs.Numbers.{big_number-reads_back, length-bytes_high_first, big_from-lt}
use Rattle.torn_block.specs.Layout.{Version, Version1, Version2, number_of}
use Rattle.torn_block.specs.Numbers.{AreBytes}
use Rattle.torn_block.specs.Block.{number_bytes}
use Rattle.torn_block.proofs.NumberLaws.{AreBytes-drop, spelled_8, spelled_4}
use Rattle.paxos_block.specs.declared.header.Header.{Header}
use Rattle.paxos_block.specs.Headers as older
use Rattle.paxos_block.specs.Headers.{short_bytes, short_at, HasNoHeader}
use Rattle.paxos_block.specs.Saying.{zeros, number_at}
use Rattle.paxos_block.proofs.SayingLemmas.{length-number, length-zeros}
use Rattle.endless_image.specs.declared.fault.HeaderFault.{HeaderFault}
use Rattle.endless_image.specs.declared.fault.HeaderFault.TheVariants.{NotFormatted, OlderVersion, NewerVersion, WrongDisk, WrongDisks, WrongSlots, WrongEpoch, Unfinished, Damaged, WrongLength}
use Rattle.endless_image.specs.declared.header.EndlessHeader.{EndlessHeader}
use Rattle.endless_image.specs.Headers.{IsAmong, IsEndlessHeader, header_with, header_saying, IsRight, header_in, Has}
use Rattle.endless_image.specs.Sizes.{IsSlotCount, size_of}

pub length-short : (n : ℕ) → length (short_bytes n) ≡ 4
unfolding short_bytes
length-short n = length-bytes_high_first 4 n

short_back : (n : ℕ) (rest : List ℕ) → n ≤ 4096 → big_number 4 (short_bytes n ++ rest) ≡ n
unfolding short_bytes
short_back n rest fits = let below : n < 2 ^ 32 = omega (arith, fits) in big_number-reads_back 4 n rest below

long_back : (n : ℕ) (rest : List ℕ) → n < 2 ^ 64 → big_number 8 (number_bytes n ++ rest) ≡ n
unfolding number_bytes
long_back n rest fits = big_number-reads_back 8 n rest fits

-- ---- what was spelled is read

module _ (version mark : ℕ) (h : EndlessHeader) where
  abbrev bytes : List ℕ
  bytes = header_with version mark h

  abbrev from_mark : List ℕ
  from_mark = mark ∷ zeros (1024 - 25)

  abbrev from_epoch : List ℕ
  from_epoch = number_bytes h.first_epoch ++ from_mark

  abbrev from_cluster : List ℕ
  from_cluster = number_bytes h.cluster ++ from_epoch

  abbrev from_slots : List ℕ
  from_slots = short_bytes h.slots ++ from_cluster

  pub reads_gate : slice_index (header_with version mark h) 0 ≡ 165
  unfolding header_with
  reads_gate = refl

  pub reads_version : slice_index (header_with version mark h) 1 ≡ version
  unfolding header_with
  reads_version = refl

  pub reads_disk : slice_index bytes 2 ≡ h.disk
  unfolding header_with
  reads_disk = refl

  pub reads_disks : slice_index bytes 3 ≡ h.disks
  unfolding header_with
  reads_disks = refl

  pub at_slots : drop 4 bytes ≡ from_slots
  unfolding header_with
  at_slots = refl

  at_cluster : drop 8 bytes ≡ from_cluster
  at_cluster = sym (drop-drop 4 4 bytes) ∙ ap (drop 4) at_slots ∙ drop_at (short_bytes h.slots) from_cluster 4 (length-short h.slots)

  at_epoch : drop 16 bytes ≡ from_epoch
  at_epoch = sym (drop-drop 8 8 bytes) ∙ ap (drop 8) at_cluster ∙ drop_at (number_bytes h.cluster) from_epoch 8 (length-number h.cluster)

  pub at_mark : drop 24 (header_with version mark h) ≡ mark ∷ zeros (1024 - 25)
  at_mark = sym (drop-drop 8 16 bytes) ∙ ap (drop 8) at_epoch ∙ drop_at (number_bytes h.first_epoch) from_mark 8 (length-number h.first_epoch)

  at_rest : drop 25 bytes ≡ zeros (1024 - 25)
  at_rest = sym (drop-drop 1 24 bytes) ∙ ap (drop 1) at_mark

  pub reads_mark : slice_index (header_with version mark h) 24 ≡ mark
  reads_mark = sym (get_or-drop 24 bytes 0 0) ∙ ap (λ (l : List ℕ). get_or l 0 0) at_mark

  pub length-header : length (header_with version mark h) ≡ 1024
  length-header =
      let last = length-zeros (1024 - 25) in
      let end = ap length at_mark in
      let many : length (drop 24 bytes) ≡ 1000 = omega (arith, end, last) in
      omega (arith, length-drop 24 bytes, many)

  module _ (is : IsEndlessHeader h) (fits : h.cluster < 2 ^ 64) where
    pub reads_slots : short_at 4 (header_with version mark h) ≡ h.slots
    unfolding short_at
    reads_slots = ap (big_number 4) at_slots ∙ short_back h.slots from_cluster is.slots.1

    reads_cluster : number_at 8 bytes ≡ h.cluster
    unfolding number_at
    reads_cluster = ap (big_number 8) at_cluster ∙ long_back h.cluster from_epoch fits

    reads_epoch : number_at 16 bytes ≡ h.first_epoch
    unfolding number_at
    reads_epoch = ap (big_number 8) at_epoch ∙ long_back h.first_epoch from_mark (omega (arith, is.epoch))

    pub header_back : header_in (header_with version mark h) ≡ h
    unfolding header_in
    header_back = λ i. record { disk = reads_disk i; disks = reads_disks i; slots = reads_slots i; cluster = reads_cluster i; first_epoch = reads_epoch i }

-- a right image has no fault
module _ (disk long : ℕ) (bytes : List ℕ) (h : EndlessHeader) (right : IsRight disk long bytes h) where
  pub back : header_in bytes ≡ h
  back = ap header_in right.spelled ∙ header_back 4 0 h right.may_be right.fits

  spelled_at : (k : ℕ) → slice_index bytes k ≡ slice_index (header_saying h) k
  spelled_at k = ap (λ (l : List ℕ). slice_index l k) right.spelled

  pub right_lacks : (fault : HeaderFault) → ¬ Has disk long bytes fault
  right_lacks NotFormatted has = has (spelled_at 0 ∙ reads_gate 4 0 h)
  right_lacks OlderVersion has = absurd (omega (arith, has, spelled_at 1, reads_version 4 0 h))
  right_lacks NewerVersion has = absurd (omega (arith, has, spelled_at 1, reads_version 4 0 h))
  right_lacks WrongDisk has = has (ap (λ (g : EndlessHeader). g.disk) back ∙ right.named)
  right_lacks WrongDisks has = has (subst (λ (g : EndlessHeader). IsAmong g.disk g.disks) (sym back) right.may_be.among)
  right_lacks WrongSlots has = has (subst (λ (g : EndlessHeader). IsSlotCount g.slots) (sym back) right.may_be.slots)
  right_lacks WrongEpoch has = absurd (omega (arith, has, ap (λ (g : EndlessHeader). g.first_epoch) back, right.may_be.epoch))
  right_lacks Unfinished has = has (spelled_at 24 ∙ reads_mark 4 0 h)
  right_lacks Damaged has = has (ap (drop 25) right.spelled ∙ at_rest 4 0 h)
  right_lacks WrongLength has = has (ap (λ (g : EndlessHeader). size_of g.slots) back ∙ right.as_long)

pub one_header : (disk long : ℕ) (bytes : List ℕ) (a b : EndlessHeader) → IsRight disk long bytes a → IsRight disk long bytes b → a ≡ b
one_header disk long bytes a b is_a is_b = sym (back disk long bytes a is_a) ∙ back disk long bytes b is_b

-- ---- where no fault has a cause

four : (l : List ℕ) → 4 ≤ length l → l ≡ get_or l 0 0 ∷ get_or l 1 0 ∷ get_or l 2 0 ∷ get_or l 3 0 ∷ drop 4 l
four [] long = absurd (omega (arith, long))
four (a ∷ []) long = absurd (omega (arith, long))
four (a ∷ b ∷ []) long = absurd (omega (arith, long))
four (a ∷ b ∷ c ∷ []) long = absurd (omega (arith, long))
four (a ∷ b ∷ c ∷ d ∷ l) long = refl

one : (l : List ℕ) → 1 ≤ length l → l ≡ get_or l 0 0 ∷ drop 1 l
one [] long = absurd (omega (arith, long))
one (a ∷ l) long = refl

module _ (bytes : List ℕ) (whole : length bytes ≡ 1024) (fits : AreBytes bytes) where
  slots_stand : short_bytes (short_at 4 bytes) ≡ take 4 (drop 4 bytes)
  unfolding short_bytes short_at
  slots_stand = spelled_4 (drop 4 bytes) (AreBytes-drop 4 bytes fits) (omega (arith, whole, length-drop 4 bytes))

  cluster_stands : number_bytes (number_at 8 bytes) ≡ take 8 (drop 8 bytes)
  unfolding number_bytes number_at
  cluster_stands = spelled_8 (drop 8 bytes) (AreBytes-drop 8 bytes fits) (omega (arith, whole, length-drop 8 bytes))

  epoch_stands : number_bytes (number_at 16 bytes) ≡ take 8 (drop 16 bytes)
  unfolding number_bytes number_at
  epoch_stands = spelled_8 (drop 16 bytes) (AreBytes-drop 16 bytes fits) (omega (arith, whole, length-drop 16 bytes))

  cluster_fits : number_at 8 bytes < 2 ^ 64
  unfolding number_at
  cluster_fits = big_from-lt 0 8 (drop 8 bytes) (AreBytes-drop 8 bytes fits)

  cluster_in : (header_in bytes).cluster < 2 ^ 64
  unfolding header_in
  cluster_in = cluster_fits

  -- a number that stands in its bytes, and what is behind it
  stands : (n m : ℕ) (spelled rest : List ℕ) → spelled ≡ take m (drop n bytes) → rest ≡ drop (n + m) bytes → spelled ++ rest ≡ drop n bytes
  stands n m spelled rest front behind =
      ap (λ (l : List ℕ). l ++ rest) front
      ∙ ap (λ (l : List ℕ). take m (drop n bytes) ++ l) (behind ∙ sym (drop-drop m n bytes))
      ∙ take-append-drop m (drop n bytes)

  header_stands : slice_index bytes 0 ≡ 165 → slice_index bytes 1 ≡ 4 → slice_index bytes 24 ≡ 0 → drop 25 bytes ≡ zeros (1024 - 25) → bytes ≡ header_saying (header_in bytes)
  unfolding header_with header_in
  header_stands gate version mark rest =
      let at_24 = drop 24 bytes in
      let none = get_or-drop 24 bytes 0 0 ∙ mark in
      let last = drop-drop 1 24 bytes ∙ rest in
      let end : 0 ∷ zeros (1024 - 25) ≡ at_24 = sym (one at_24 (omega (arith, whole, length-drop 24 bytes)) ∙ (λ i. none i ∷ last i)) in
      let epoch = stands 16 8 (number_bytes (number_at 16 bytes)) _ epoch_stands end in
      let cluster = stands 8 8 (number_bytes (number_at 8 bytes)) _ cluster_stands epoch in
      let all = stands 4 4 (short_bytes (short_at 4 bytes)) _ slots_stand cluster in
      four bytes (omega (arith, whole)) ∙ (λ i. gate i ∷ version i ∷ slice_index bytes 2 ∷ slice_index bytes 3 ∷ sym all i)

  -- an image without faults is right
  pub right_by : (disk long : ℕ) → slice_index bytes 0 ≡ 165 → slice_index bytes 1 ≡ 4 → (header_in bytes).disk ≡ disk → IsAmong (header_in bytes).disk (header_in bytes).disks → IsSlotCount (header_in bytes).slots →
      (header_in bytes).first_epoch ≤ 2 ^ 62 → slice_index bytes 24 ≡ 0 → drop 25 bytes ≡ zeros (1024 - 25) → size_of (header_in bytes).slots ≡ long → IsRight disk long bytes (header_in bytes)
  right_by disk long gate version named among slots epoch mark rest as_long =
      record {
        may_be = record { among = among; slots = slots; epoch = epoch };
        fits = cluster_in;
        named = named;
        as_long = as_long;
        spelled = header_stands gate version mark rest;
      }

-- ---- whoever knows only logs that end

version_of : (v : Version) → number_of v ≢ 4
version_of Version1 same = absurd (omega (arith, same))
version_of Version2 same = absurd (omega (arith, same))

pub older_version : (v : Version) (header : Header) → slice_index (older.header_saying v header) 1 ≡ number_of v
unfolding older.header_saying
older_version v header = refl

pub no_older : (v : Version) (disk long : ℕ) (header : EndlessHeader) → HasNoHeader v disk long (header_saying header)
no_older v disk long header =
    record {
      formatted = reads_gate 4 0 header;
      wrong =
          λ other right.
          version_of v
          (sym (older_version v other) ∙ sym (ap (λ (l : List ℕ). slice_index l 1) right.spelled) ∙ reads_version 4 0 header);
    }

-- the byte of the mark, which is among the zeros of theirs
module _ (v : Version) (header : Header) where
  older_slots : drop 4 (older.header_saying v header) ≡ short_bytes header.slots ++ older.header_end header
  unfolding older.header_saying
  older_slots = refl

  older_cluster : drop 8 (older.header_saying v header) ≡ older.header_end header
  older_cluster =
      sym (drop-drop 4 4 (older.header_saying v header)) ∙ ap (drop 4) older_slots ∙ drop_at (short_bytes header.slots) (older.header_end header) 4 (length-short header.slots)

  older_zeros : drop 16 (older.header_saying v header) ≡ zeros (1024 - 16)
  older_zeros =
      sym (drop-drop 8 8 (older.header_saying v header)) ∙ ap (drop 8) older_cluster ∙ drop_at (number_bytes header.cluster) (zeros (1024 - 16)) 8 (length-number header.cluster)

  zero_in : slice_index (zeros (1024 - 16)) 8 ≡ 0
  unfolding zeros
  zero_in = get_or-replicate (1024 - 16) 8 0 0 (omega arith)

  pub older_mark : slice_index (older.header_saying v header) 24 ≡ 0
  older_mark = sym (get_or-drop 16 (older.header_saying v header) 8 0) ∙ ap (λ (l : List ℕ). get_or l 8 0) older_zeros ∙ zero_in

pub no_older_marked : (v : Version) (disk long version mark : ℕ) (header : EndlessHeader) → mark ≢ 0 → HasNoHeader v disk long (header_with version mark header)
no_older_marked v disk long version mark header marked =
    record {
      formatted = reads_gate version mark header;
      wrong =
          λ other right.
          marked (sym (reads_mark version mark header) ∙ ap (λ (l : List ℕ). slice_index l 24) right.spelled ∙ older_mark v other);
    }

-- ---- what is encoded is right

pub encoded : (header : EndlessHeader) → IsEndlessHeader header → header.cluster < 2 ^ 64 → IsRight header.disk (size_of header.slots) (header_saying header) header
encoded header is fits = record { may_be = is; fits = fits; named = refl; as_long = refl; spelled = refl }
