-- The test of a header decides whether the image is right.
use Rattle.std.specs.Prelude.{◌≡◌, ◌==◌, ◌&&◌, ◌≤◌, ◌<◌, ◌^◌, ◌-◌, ◌++◌, ℕ, true, nat_lt, nat_le, List, [], ◌∷◌, length, take, drop, slice_index}
use Rattle.std.proofs.Common.{refl, sym, ap, ◌∙◌, arith, get_or, length-drop}
use Rattle.std.specs.List.{list_all}
use Rattle.std.proofs.lemmas.List.{drop_at, drop-drop, take-append-drop}
use Rattle.std.proofs.lemmas.Bool.{and_parts, and_from, ltb-true, lt-ltb, leb-true, le-leb, eqb-true, eq-eqb}
use Rattle.byteorder.specs.Endian.{big_number}
use Rattle.byteorder.specs.Numbers.{big_number-reads_back, length-bytes_high_first, big_from-lt}
use Rattle.torn_block.specs.Block.{number_bytes}
use Rattle.torn_block.specs.declared.layout.TheConstants.{DISKS, SLOTS, HEADER_LENGTH}
use Rattle.torn_block.specs.declared.block.TheConstants.{OPEN_GATE}
use Rattle.paxos_block.specs.declared.header.TheConstants.{SLOTS_AT, CLUSTER_AT, ZEROS_AT}
use Rattle.paxos_block.specs.declared.header.Header.{Header}
use Rattle.torn_block.specs.Numbers.{AreBytes}
use Rattle.torn_block.proofs.NumberLaws.{AreBytes-drop, spelled_8, spelled_4}
use Rattle.paxos_block.specs.Saying.{zeros, number_at}
use Rattle.paxos_block.proofs.SayingLemmas.{zero_tells, zero_since, length-number}
use Rattle.paxos_block.specs.Places.{image_length}
use Rattle.paxos_block.specs.Headers.{IsHeader, short_bytes, short_at, header_end, header_saying, IsRight, header_in, is_header, is_right}
use Rattle.torn_block.specs.Layout.{Version, number_of}

pub is_header_tells : (header : Header) → is_header header ≡ true → IsHeader header
is_header_tells header t =
    let a = and_parts (nat_lt header.disk header.disks && nat_le header.disks DISKS && nat_le 1 header.slots) (nat_le header.slots SLOTS) t in
    let b = and_parts (nat_lt header.disk header.disks && nat_le header.disks DISKS) (nat_le 1 header.slots) a.0 in
    let d = and_parts (nat_lt header.disk header.disks) (nat_le header.disks DISKS) b.0 in
    record {
      disk = ltb-true header.disk header.disks d.0;
      disks = leb-true header.disks DISKS d.1;
      some_slots = leb-true 1 header.slots b.1;
      slots = leb-true header.slots SLOTS a.1;
    }

pub is_header_since : (header : Header) → IsHeader header → is_header header ≡ true
is_header_since header is =
    and_from (nat_lt header.disk header.disks && nat_le header.disks DISKS && nat_le 1 header.slots) (nat_le header.slots SLOTS)
    (and_from (nat_lt header.disk header.disks && nat_le header.disks DISKS) (nat_le 1 header.slots)
    (and_from (nat_lt header.disk header.disks) (nat_le header.disks DISKS) (lt-ltb header.disk header.disks is.disk) (le-leb header.disks DISKS is.disks))
    (le-leb 1 header.slots is.some_slots))
    (le-leb header.slots SLOTS is.slots)

length-short : (n : ℕ) → length (short_bytes n) ≡ 4
unfolding short_bytes
length-short n = length-bytes_high_first 4 n

short_reads_back : (n : ℕ) (rest : List ℕ) → n ≤ SLOTS → big_number 4 (short_bytes n ++ rest) ≡ n
unfolding short_bytes
short_reads_back n rest fits = let below : n < 2 ^ 32 = omega arith in big_number-reads_back 4 n rest below

long_reads_back : (n : ℕ) (rest : List ℕ) → n < 2 ^ 64 → big_number 8 (number_bytes n ++ rest) ≡ n
unfolding number_bytes
long_reads_back n rest fits = big_number-reads_back 8 n rest fits

-- ---- what was spelled is read

module _ (v : Version) (header : Header) (is : IsHeader header) (fits : header.cluster < 2 ^ 64) where
  at_slots : drop 4 (header_saying v header) ≡ short_bytes header.slots ++ header_end header
  unfolding header_saying
  at_slots = refl

  at_cluster : drop 8 (header_saying v header) ≡ header_end header
  at_cluster = sym (drop-drop 4 4 (header_saying v header)) ∙ ap (drop 4) at_slots ∙ drop_at (short_bytes header.slots) (header_end header) 4 (length-short header.slots)

  at_zeros : drop ZEROS_AT (header_saying v header) ≡ zeros (HEADER_LENGTH - ZEROS_AT)
  at_zeros = sym (drop-drop 8 8 (header_saying v header)) ∙ ap (drop 8) at_cluster ∙ drop_at (number_bytes header.cluster) (zeros (HEADER_LENGTH - ZEROS_AT)) 8 (length-number header.cluster)

  reads_slots : short_at SLOTS_AT (header_saying v header) ≡ header.slots
  unfolding short_at
  reads_slots = ap (big_number 4) at_slots ∙ short_reads_back header.slots (header_end header) is.slots

  reads_cluster : number_at CLUSTER_AT (header_saying v header) ≡ header.cluster
  unfolding number_at
  reads_cluster = ap (big_number 8) at_cluster ∙ long_reads_back header.cluster (zeros (HEADER_LENGTH - ZEROS_AT)) fits

  reads_disk : slice_index (header_saying v header) 2 ≡ header.disk
  unfolding header_saying
  reads_disk = refl

  reads_disks : slice_index (header_saying v header) 3 ≡ header.disks
  unfolding header_saying
  reads_disks = refl

  reads_version : slice_index (header_saying v header) 1 ≡ number_of v
  unfolding header_saying
  reads_version = refl

  pub reads_gate : slice_index (header_saying v header) 0 ≡ OPEN_GATE
  unfolding header_saying
  reads_gate = refl

  pub header_back : header_in (header_saying v header) ≡ header
  unfolding header_in
  header_back = λ i. record { disk = reads_disk i; disks = reads_disks i; slots = reads_slots i; cluster = reads_cluster i }

pub right_since : (v : Version) → (disk long : ℕ) (bytes : List ℕ) (header : Header) → IsRight v disk long bytes header → (is_right v disk long bytes ≡ true) × (header_in bytes ≡ header)
right_since v disk long bytes header right =
    let back = ap header_in right.spelled ∙ header_back v header right.may_be right.fits in
    let a = eq-eqb (slice_index bytes 1) (number_of v) (ap (λ (l : List ℕ). slice_index l 1) right.spelled ∙ reads_version v header right.may_be right.fits) in
    let b = ap is_header back ∙ is_header_since header right.may_be in
    let d = eq-eqb (header_in bytes).disk disk (ap (λ (h : Header). h.disk) back ∙ right.named) in
    let e = eq-eqb (image_length v (header_in bytes).slots) long (ap (λ (h : Header). image_length v h.slots) back ∙ right.as_long) in
    let f = ap (λ (l : List ℕ). list_all (λ b. b == 0) (drop ZEROS_AT l)) right.spelled ∙ ap (list_all (λ b. b == 0)) (at_zeros v header right.may_be right.fits) ∙ zero_since (HEADER_LENGTH - ZEROS_AT) in
    (and_from _ _ (and_from _ _ (and_from _ _ (and_from _ _ a b) d) e) f, back)

-- ---- what is read is spelled so

four : (l : List ℕ) → 4 ≤ length l → l ≡ get_or l 0 0 ∷ get_or l 1 0 ∷ get_or l 2 0 ∷ get_or l 3 0 ∷ drop 4 l
four [] long = absurd (omega arith)
four (a ∷ []) long = absurd (omega arith)
four (a ∷ b ∷ []) long = absurd (omega arith)
four (a ∷ b ∷ c ∷ []) long = absurd (omega arith)
four (a ∷ b ∷ c ∷ d ∷ l) long = refl

module _ (v : Version) (bytes : List ℕ) (whole : length bytes ≡ HEADER_LENGTH) (fits : AreBytes bytes) where
  slots_stand : short_bytes (short_at SLOTS_AT bytes) ≡ take 4 (drop 4 bytes)
  unfolding short_bytes short_at
  slots_stand = spelled_4 (drop 4 bytes) (AreBytes-drop 4 bytes fits) (omega (arith, length-drop 4 bytes))

  cluster_stands : number_bytes (number_at CLUSTER_AT bytes) ≡ take 8 (drop 8 bytes)
  unfolding number_bytes number_at
  cluster_stands = spelled_8 (drop 8 bytes) (AreBytes-drop 8 bytes fits) (omega (arith, length-drop 8 bytes))

  cluster_fits : number_at CLUSTER_AT bytes < 2 ^ 64
  unfolding number_at
  cluster_fits = big_from-lt 0 8 (drop 8 bytes) (AreBytes-drop 8 bytes fits)

  header_stands : slice_index bytes 0 ≡ OPEN_GATE → slice_index bytes 1 ≡ number_of v → list_all (λ b. b == 0) (drop ZEROS_AT bytes) ≡ true → bytes ≡ header_saying v (header_in bytes)
  unfolding header_saying header_in
  header_stands gate version zero_end =
      let rest : drop ZEROS_AT bytes ≡ zeros (HEADER_LENGTH - ZEROS_AT) = zero_tells (drop ZEROS_AT bytes) zero_end ∙ ap zeros (omega (arith, length-drop ZEROS_AT bytes)) in
      let end_ : number_bytes (number_at CLUSTER_AT bytes) ++ zeros (HEADER_LENGTH - ZEROS_AT) ≡ drop 8 bytes =
      ap (λ (l : List ℕ). l ++ zeros (HEADER_LENGTH - ZEROS_AT)) cluster_stands
      ∙ ap (λ (l : List ℕ). take 8 (drop 8 bytes) ++ l) (sym rest ∙ sym (drop-drop 8 8 bytes))
      ∙ take-append-drop 8 (drop 8 bytes) in
      let all : short_bytes (short_at SLOTS_AT bytes) ++ (number_bytes (number_at CLUSTER_AT bytes) ++ zeros (HEADER_LENGTH - ZEROS_AT)) ≡ drop 4 bytes =
      ap (λ (l : List ℕ). l ++ (number_bytes (number_at CLUSTER_AT bytes) ++ zeros (HEADER_LENGTH - ZEROS_AT))) slots_stand
      ∙ ap (λ (l : List ℕ). take 4 (drop 4 bytes) ++ l) (end_ ∙ sym (drop-drop 4 4 bytes))
      ∙ take-append-drop 4 (drop 4 bytes) in
      four bytes (omega arith)
      ∙ (λ i. gate i ∷ version i ∷ slice_index bytes 2 ∷ slice_index bytes 3 ∷ sym all i)

  cluster_in : (header_in bytes).cluster < 2 ^ 64
  unfolding header_in
  cluster_in = cluster_fits

  pub right_tells : (disk long : ℕ) → slice_index bytes 0 ≡ OPEN_GATE → is_right v disk long bytes ≡ true → IsRight v disk long bytes (header_in bytes)
  right_tells disk long gate t =
      let zero_end = list_all (λ b. b == 0) (drop ZEROS_AT bytes) in
      let version = slice_index bytes 1 == number_of v in
      let good = is_header (header_in bytes) in
      let named = (header_in bytes).disk == disk in
      let as_long = image_length v (header_in bytes).slots == long in
      let a = and_parts (version && good && named && as_long) zero_end t in
      let b = and_parts (version && good && named) as_long a.0 in
      let d = and_parts (version && good) named b.0 in
      let e = and_parts version good d.0 in
      record {
        may_be = is_header_tells (header_in bytes) e.1;
        fits = cluster_in;
        named = eqb-true (header_in bytes).disk disk d.1;
        as_long = eqb-true (image_length v (header_in bytes).slots) long b.1;
        spelled = header_stands gate (eqb-true (slice_index bytes 1) (number_of v) e.0) a.1;
      }

-- a right image has its gate open
pub right_gate : (v : Version) → (disk long : ℕ) (bytes : List ℕ) (header : Header) → IsRight v disk long bytes header → slice_index bytes 0 ≡ OPEN_GATE
right_gate v disk long bytes header right = ap (λ (l : List ℕ). slice_index l 0) right.spelled ∙ reads_gate v header right.may_be right.fits
