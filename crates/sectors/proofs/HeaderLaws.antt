-- What a header is spelled to say is read from it, and what is read where no fault has a cause is spelled so.
use Rattle.std.specs.Prelude.{◌≡◌, ◌≢◌, ◌==◌, ◌+◌, ◌≤◌, ◌<◌, ◌^◌, ◌-◌, ◌++◌, ℕ, Bool, true, false, List, [], ◌∷◌, length, take, drop, slice_index}
use Rattle.std.proofs.Common.{refl, sym, ap, ◌∙◌, subst, arith, inl, inr, get_or, length-drop}
use Rattle.std.proofs.lemmas.List.{drop_at, drop-drop, take-append-drop, get_or-take, get_or-drop}
use Rattle.std.proofs.lemmas.Bool.{cases_eq, eq-eqb}
use Rattle.byteorder.specs.Endian.{big_number}
use Rattle.byteorder.specs.Numbers.{big_number-reads_back, length-bytes_high_first, big_from-lt}
use Rattle.torn_block.specs.Layout.{Version, Version1, Version2, number_of}
use Rattle.torn_block.specs.Numbers.{AreBytes}
use Rattle.torn_block.specs.Block.{number_bytes}
use Rattle.torn_block.proofs.NumberLaws.{AreBytes-drop, spelled_8, spelled_4}
use Rattle.paxos_block.specs.declared.header.Header.{Header}
use Rattle.paxos_block.specs.Headers as older
use Rattle.paxos_block.specs.Headers.{short_bytes, short_at}
use Rattle.paxos_block.specs.Saying.{zeros, number_at, flag_of}
use Rattle.endless_image.specs.declared.header.EndlessHeader.{EndlessHeader}
use Rattle.endless_image.specs.Headers as endless
use Rattle.endless_image.specs.Kinds.{IsSlotsBy}
use Rattle.endless_image.specs.declared.kind.Kind.{Kind}
use Rattle.endless_image.specs.declared.kind.Kind.TheVariants.{Ending, Endless}
use Rattle.sectors.specs.declared.fault.DeviceFault.{DeviceFault}
use Rattle.sectors.specs.declared.fault.DeviceFault.TheVariants.{NotFormatted, WrongVersion, WrongDisk, WrongSlots, WrongSectorSize, WrongParts, WrongHosts, WrongWrites, WrongRest, TooShort}
use Rattle.sectors.specs.declared.header.DeviceHeader.{DeviceHeader}
use Rattle.sectors.specs.Geometry.{IsSectorSize, IsHostCount, device_size}
use Rattle.sectors.specs.Headers.{IsNamed, IsDeviceHeader, IsVersion, version_by, kind_by, header_saying, header_end, IsRight, header_in, Has}
use Rattle.sectors.proofs.SectorLaws.{length-number}

length-short : (n : ℕ) → length (short_bytes n) ≡ 4
unfolding short_bytes
length-short n = length-bytes_high_first 4 n

short_back : (n : ℕ) (rest : List ℕ) → n ≤ 4096 → big_number 4 (short_bytes n ++ rest) ≡ n
unfolding short_bytes
short_back n rest fits = let below : n < 2 ^ 32 = omega (arith, fits) in big_number-reads_back 4 n rest below

long_back : (n : ℕ) (rest : List ℕ) → n < 2 ^ 64 → big_number 8 (number_bytes n ++ rest) ≡ n
unfolding number_bytes
long_back n rest fits = big_number-reads_back 8 n rest fits

short_sector : (size : ℕ) → IsSectorSize size → size ≤ 4096
short_sector size (inl is) = omega (arith, is)
short_sector size (inr (inl is)) = omega (arith, is)
short_sector size (inr (inr (inl is))) = omega (arith, is)
short_sector size (inr (inr (inr is))) = omega (arith, is)

short_slots : (kind : Kind) (slots : ℕ) → IsSlotsBy kind slots → slots ≤ 4096
short_slots Ending slots is = omega (arith, is.1)
short_slots Endless slots is = omega (arith, is.1)

-- a version and the kind that it says
kind_back : (kind : Kind) → kind_by (version_by kind) ≡ kind
kind_back Ending = refl
kind_back Endless = refl

is_version : (kind : Kind) → IsVersion (version_by kind)
is_version Ending = inl refl
is_version Endless = inr refl

version_stands : (version : ℕ) → IsVersion version → version ≡ version_by (kind_by version)
version_stands version (inl is) = is ∙ ap (λ (n : ℕ). version_by (kind_by n)) (sym is)
version_stands version (inr is) = is ∙ ap (λ (n : ℕ). version_by (kind_by n)) (sym is)

flag_back : (b : Bool) → (flag_of b == 1) ≡ b
flag_back true = refl
flag_back false = refl

flag_small : (b : Bool) → flag_of b ≤ 1
flag_small true = omega arith
flag_small false = omega arith

-- ---- what was spelled is read

version_read : (h : DeviceHeader) → slice_index (header_saying h) 1 ≡ version_by h.geometry.kind
unfolding header_saying
version_read h = refl

module _ (h : DeviceHeader) (is : IsDeviceHeader h) (fits : h.cluster < 2 ^ 64) where
  abbrev from_slots : List ℕ
  from_slots = short_bytes h.geometry.slots ++ (number_bytes h.cluster ++ (short_bytes h.geometry.sector_size ++ header_end h))

  abbrev from_cluster : List ℕ
  from_cluster = number_bytes h.cluster ++ (short_bytes h.geometry.sector_size ++ header_end h)

  abbrev from_size : List ℕ
  from_size = short_bytes h.geometry.sector_size ++ header_end h

  at_slots : drop 4 (header_saying h) ≡ from_slots
  unfolding header_saying
  at_slots = refl

  at_cluster : drop 8 (header_saying h) ≡ from_cluster
  at_cluster =
      sym (drop-drop 4 4 (header_saying h)) ∙ ap (drop 4) at_slots ∙ drop_at (short_bytes h.geometry.slots) from_cluster 4 (length-short h.geometry.slots)

  at_size : drop 16 (header_saying h) ≡ from_size
  at_size =
      sym (drop-drop 8 8 (header_saying h)) ∙ ap (drop 8) at_cluster ∙ drop_at (number_bytes h.cluster) from_size 8 (length-number h.cluster)

  at_end : drop 20 (header_saying h) ≡ header_end h
  at_end =
      sym (drop-drop 4 16 (header_saying h)) ∙ ap (drop 4) at_size ∙ drop_at (short_bytes h.geometry.sector_size) (header_end h) 4 (length-short h.geometry.sector_size)

  at_rest : drop 23 (header_saying h) ≡ zeros (4096 - 23)
  at_rest = sym (drop-drop 3 20 (header_saying h)) ∙ ap (drop 3) at_end

  reads_gate : slice_index (header_saying h) 0 ≡ 165
  unfolding header_saying
  reads_gate = refl

  reads_disk : slice_index (header_saying h) 2 ≡ h.disk
  unfolding header_saying
  reads_disk = refl

  reads_disks : slice_index (header_saying h) 3 ≡ h.disks
  unfolding header_saying
  reads_disks = refl

  reads_slots : short_at 4 (header_saying h) ≡ h.geometry.slots
  unfolding short_at
  reads_slots = ap (big_number 4) at_slots ∙ short_back h.geometry.slots from_cluster (short_slots h.geometry.kind h.geometry.slots is.geometry.slots)

  reads_kind : kind_by (slice_index (header_saying h) 1) ≡ h.geometry.kind
  reads_kind = ap kind_by (version_read h) ∙ kind_back h.geometry.kind

  reads_cluster : number_at 8 (header_saying h) ≡ h.cluster
  unfolding number_at
  reads_cluster = ap (big_number 8) at_cluster ∙ long_back h.cluster from_size fits

  reads_size : short_at 16 (header_saying h) ≡ h.geometry.sector_size
  unfolding short_at
  reads_size =
      ap (big_number 4) at_size ∙ short_back h.geometry.sector_size (header_end h) (short_sector h.geometry.sector_size is.geometry.sector_size)

  reads_end : (k : ℕ) → slice_index (header_saying h) (20 + k) ≡ slice_index (header_end h) k
  reads_end k = sym (get_or-drop 20 (header_saying h) k 0) ∙ ap (λ (l : List ℕ). get_or l k 0) at_end

  reads_flag : slice_index (header_saying h) 22 ≡ flag_of h.dsync
  reads_flag = reads_end 2

  pub header_back : header_in (header_saying h) ≡ h
  unfolding header_in
  header_back =
      λ i.
      record {
        disk = reads_disk i;
        disks = reads_disks i;
        cluster = reads_cluster i;
        geometry = record { sector_size = reads_size i; hosts = reads_end 1 i; kind = reads_kind i; slots = reads_slots i };
        dsync = (ap (λ (n : ℕ). n == 1) reads_flag ∙ flag_back h.dsync) i;
      }

-- a right device has no fault
module _ (disk long : ℕ) (bytes : List ℕ) (h : DeviceHeader) (right : IsRight disk long bytes h) where
  pub back : header_in bytes ≡ h
  back = ap header_in right.spelled ∙ header_back h right.may_be right.fits

  spelled_at : (k : ℕ) → slice_index bytes k ≡ slice_index (header_saying h) k
  spelled_at k = ap (λ (l : List ℕ). slice_index l k) right.spelled

  pub right_lacks : (fault : DeviceFault) → ¬ Has disk long bytes fault
  right_lacks NotFormatted has = has (spelled_at 0 ∙ reads_gate h right.may_be right.fits)
  right_lacks WrongVersion has = has (subst IsVersion (sym (spelled_at 1 ∙ version_read h)) (is_version h.geometry.kind))
  right_lacks WrongDisk has =
      has (subst (IsNamed disk) (sym back) (record { named = right.named; among = right.may_be.disk.among; disks = right.may_be.disk.disks }))
  right_lacks WrongSlots has = has (subst (λ (g : DeviceHeader). IsSlotsBy g.geometry.kind g.geometry.slots) (sym back) right.may_be.geometry.slots)
  right_lacks WrongSectorSize has =
      has (subst (λ (g : DeviceHeader). IsSectorSize g.geometry.sector_size) (sym back) right.may_be.geometry.sector_size)
  right_lacks WrongParts has = has (spelled_at 20 ∙ reads_end h right.may_be right.fits 0)
  right_lacks WrongHosts has = has (subst (λ (g : DeviceHeader). IsHostCount g.geometry.hosts) (sym back) right.may_be.geometry.hosts)
  right_lacks WrongWrites has = absurd (omega (arith, has, spelled_at 22, reads_flag h right.may_be right.fits, flag_small h.dsync))
  right_lacks WrongRest has = has (ap (drop 23) right.spelled ∙ at_rest h right.may_be right.fits)
  right_lacks TooShort has = absurd (omega (arith, has, ap (λ (g : DeviceHeader). device_size g.geometry) back, right.room))

pub one_header : (disk long : ℕ) (bytes : List ℕ) (a b : DeviceHeader) → IsRight disk long bytes a → IsRight disk long bytes b → a ≡ b
one_header disk long bytes a b is_a is_b = sym (back disk long bytes a is_a) ∙ back disk long bytes b is_b

-- ---- where no fault has a cause

four : (l : List ℕ) → 4 ≤ length l → l ≡ get_or l 0 0 ∷ get_or l 1 0 ∷ get_or l 2 0 ∷ get_or l 3 0 ∷ drop 4 l
four [] long = absurd (omega (arith, long))
four (a ∷ []) long = absurd (omega (arith, long))
four (a ∷ b ∷ []) long = absurd (omega (arith, long))
four (a ∷ b ∷ c ∷ []) long = absurd (omega (arith, long))
four (a ∷ b ∷ c ∷ d ∷ l) long = refl

three : (l : List ℕ) → 3 ≤ length l → l ≡ get_or l 0 0 ∷ get_or l 1 0 ∷ get_or l 2 0 ∷ drop 3 l
three [] long = absurd (omega (arith, long))
three (a ∷ []) long = absurd (omega (arith, long))
three (a ∷ b ∷ []) long = absurd (omega (arith, long))
three (a ∷ b ∷ c ∷ l) long = refl

flag_stands : (n : ℕ) → n ≤ 1 → n ≡ flag_of (n == 1)
flag_stands n small =
    elim (cases_eq n 1) [
      | inl one ↦ one ∙ ap flag_of (sym (eq-eqb n 1 one))
      | inr other ↦ (let none : n ≡ 0 = omega (arith, small, other) in none ∙ ap (λ (m : ℕ). flag_of (m == 1)) (sym none))
    ]

module _ (bytes : List ℕ) (whole : length bytes ≡ 4096) (fits : AreBytes bytes) where
  slots_stand : short_bytes (short_at 4 bytes) ≡ take 4 (drop 4 bytes)
  unfolding short_bytes short_at
  slots_stand = spelled_4 (drop 4 bytes) (AreBytes-drop 4 bytes fits) (omega (arith, whole, length-drop 4 bytes))

  size_stands : short_bytes (short_at 16 bytes) ≡ take 4 (drop 16 bytes)
  unfolding short_bytes short_at
  size_stands = spelled_4 (drop 16 bytes) (AreBytes-drop 16 bytes fits) (omega (arith, whole, length-drop 16 bytes))

  cluster_stands : number_bytes (number_at 8 bytes) ≡ take 8 (drop 8 bytes)
  unfolding number_bytes number_at
  cluster_stands = spelled_8 (drop 8 bytes) (AreBytes-drop 8 bytes fits) (omega (arith, whole, length-drop 8 bytes))

  cluster_fits : number_at 8 bytes < 2 ^ 64
  unfolding number_at
  cluster_fits = big_from-lt 0 8 (drop 8 bytes) (AreBytes-drop 8 bytes fits)

  cluster_in : (header_in bytes).cluster < 2 ^ 64
  unfolding header_in
  cluster_in = cluster_fits

  -- a number that stands in its bytes, and what is behind it
  stands : (n m : ℕ) (spelled rest : List ℕ) → spelled ≡ take m (drop n bytes) → rest ≡ drop (n + m) bytes → spelled ++ rest ≡ drop n bytes
  stands n m spelled rest front behind =
      ap (λ (l : List ℕ). l ++ rest) front
      ∙ ap (λ (l : List ℕ). take m (drop n bytes) ++ l) (behind ∙ sym (drop-drop m n bytes))
      ∙ take-append-drop m (drop n bytes)

  header_stands : slice_index bytes 0 ≡ 165 → IsVersion (slice_index bytes 1) → slice_index bytes 20 ≡ 1 → slice_index bytes 22 ≤ 1 → drop 23 bytes ≡ zeros (4096 - 23) → bytes ≡ header_saying (header_in bytes)
  unfolding header_saying header_in
  header_stands gate version parts flag rest =
      let at_20 = drop 20 bytes in
      let kinds : at_20 ≡ get_or at_20 0 0 ∷ get_or at_20 1 0 ∷ get_or at_20 2 0 ∷ drop 3 at_20 = three at_20 (omega (arith, whole, length-drop 20 bytes)) in
      let one = get_or-drop 20 bytes 0 0 ∙ parts in
      let hosts = get_or-drop 20 bytes 1 0 in
      let writes = get_or-drop 20 bytes 2 0 ∙ flag_stands (slice_index bytes 22) flag in
      let last = drop-drop 3 20 bytes ∙ rest in
      let end : 1 ∷ slice_index bytes 21 ∷ flag_of (slice_index bytes 22 == 1) ∷ zeros (4096 - 23) ≡ at_20 =
      sym (kinds ∙ (λ i. one i ∷ hosts i ∷ writes i ∷ last i)) in
      let size = stands 16 4 (short_bytes (short_at 16 bytes)) _ size_stands end in
      let cluster = stands 8 8 (number_bytes (number_at 8 bytes)) _ cluster_stands size in
      let all = stands 4 4 (short_bytes (short_at 4 bytes)) _ slots_stand cluster in
      four bytes (omega (arith, whole)) ∙ (λ i. gate i ∷ version_stands (slice_index bytes 1) version i ∷ slice_index bytes 2 ∷ slice_index bytes 3 ∷ sym all i)

  -- a device without faults is right
  pub right_by : (disk long : ℕ) → slice_index bytes 0 ≡ 165 → IsVersion (slice_index bytes 1) → IsNamed disk (header_in bytes) → IsSlotsBy (header_in bytes).geometry.kind (header_in bytes).geometry.slots → IsSectorSize (header_in bytes).geometry.sector_size →
      slice_index bytes 20 ≡ 1 → IsHostCount (header_in bytes).geometry.hosts → slice_index bytes 22 ≤ 1 → drop 23 bytes ≡ zeros (4096 - 23) → device_size (header_in bytes).geometry ≤ long → IsRight disk long bytes (header_in bytes)
  right_by disk long gate version named slots size parts hosts flag rest room =
      record {
        may_be =
            record {
              disk = record { named = refl; among = named.among; disks = named.disks };
              geometry = record { sector_size = size; hosts = hosts; slots = slots };
            };
        fits = cluster_in;
        named = named.named;
        room = room;
        spelled = header_stands gate version parts flag rest;
      }

-- ---- whoever knows images alone

version_of : (v : Version) (kind : Kind) → number_of v ≢ version_by kind
version_of Version1 Ending same = absurd (omega (arith, same))
version_of Version1 Endless same = absurd (omega (arith, same))
version_of Version2 Ending same = absurd (omega (arith, same))
version_of Version2 Endless same = absurd (omega (arith, same))

not_endless : (kind : Kind) → version_by kind ≢ 4
not_endless Ending same = absurd (omega (arith, same))
not_endless Endless same = absurd (omega (arith, same))

image_version : (v : Version) (header : Header) → slice_index (older.header_saying v header) 1 ≡ number_of v
unfolding older.header_saying
image_version v header = refl

pub no_image : (v : Version) (disk long : ℕ) (header : DeviceHeader) (other : Header) → ¬ older.IsRight v disk long (take 1024 (header_saying header)) other
no_image v disk long header other right =
    version_of v header.geometry.kind
    (sym (image_version v other)
    ∙ sym (ap (λ (l : List ℕ). slice_index l 1) right.spelled)
    ∙ get_or-take 1024 (header_saying header) 1 0 (omega arith)
    ∙ version_read header)

endless_version : (header : EndlessHeader) → slice_index (endless.header_saying header) 1 ≡ 4
unfolding endless.header_with
endless_version header = refl

pub no_endless_image : (disk long : ℕ) (header : DeviceHeader) (other : EndlessHeader) → ¬ endless.IsRight disk long (take 1024 (header_saying header)) other
no_endless_image disk long header other right =
    not_endless header.geometry.kind
    (sym (version_read header)
    ∙ sym (get_or-take 1024 (header_saying header) 1 0 (omega arith))
    ∙ ap (λ (l : List ℕ). slice_index l 1) right.spelled
    ∙ endless_version other)

-- whoever knows devices of logs that end alone
pub not_older : (header : DeviceHeader) → header.geometry.kind ≡ Endless → slice_index (header_saying header) 1 ≢ 3
not_older header is same = absurd (omega (arith, same, version_read header, ap version_by is))

-- ---- what is encoded is right

pub encoded : (long : ℕ) (header : DeviceHeader) → IsDeviceHeader header → header.cluster < 2 ^ 64 → device_size header.geometry ≤ long → IsRight header.disk long (header_saying header) header
encoded long header is fits room = record { may_be = is; fits = fits; named = refl; room = room; spelled = refl }
