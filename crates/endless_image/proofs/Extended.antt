-- An image of a log that ends, extended by zeros, and what becomes of it in place: its header, its log, and where its hosts stand.
use Rattle.std.specs.Prelude.{◌≡◌, ◌≢◌, ◌+◌, ◌-◌, ◌≤◌, ◌<◌, ◌++◌, ℕ, List, ◌∷◌, length, take, drop, slice_index}
use Rattle.std.proofs.Common.{suc, refl, sym, ◌∙◌, ap, subst, inl, inr, arith, get_or, length-append, length-drop, append_assoc}
use Rattle.std.proofs.lemmas.Bool.{cases_eq, cases_lt}
use Rattle.std.proofs.lemmas.List.{ext_get_or, get_or-take, get_or-drop, get_or_append_left, length-take-le}
use Rattle.disk.specs.Crash.{ChangesOnly}
use Rattle.disk.proofs.ListLemmas.{run_is}
use Rattle.torn_block.specs.Block.{number_bytes}
use Rattle.torn_block.specs.Layout.{Version, Version2, cluster_version}
use Rattle.torn_block.specs.Place.{block_in}
use Rattle.torn_block.proofs.PlaceLaws.{block_elsewhere}
use Rattle.paxos_block.specs.declared.header.Header.{Header}
use Rattle.paxos_block.specs.Headers as older
use Rattle.paxos_block.specs.Headers.{short_bytes, HasNoHeader}
use Rattle.paxos_block.specs.Places.{Spot, IsSpot, place_of, row_of, row_place}
use Rattle.paxos_block.specs.Saying.{zeros}
use Rattle.paxos_block.proofs.PlaceLemmas.{spot_fits}
use Rattle.paxos_block.proofs.SayingLemmas.{length-number}
use Rattle.standings.specs.Epochs.{base_of}
use Rattle.endless_image.specs.declared.header.EndlessHeader.{EndlessHeader}
use Rattle.endless_image.specs.Headers.{IsEndlessHeader, IsRight, header_with}
use Rattle.endless_image.specs.Holding.{block_at, IsAtFirst}
use Rattle.endless_image.specs.InPlace.{IsPatched, IsMarked, IsNew, IsLeft, IsExtended, IsEnding, IsUnfinished, endless_of}
use Rattle.endless_image.specs.Sizes.{area_size, size_of}
use Rattle.endless_image.proofs.HeaderLaws.{length-header, length-short, at_slots, at_mark, reads_gate, reads_version, reads_mark, reads_disk, reads_disks, no_older_marked}
use Rattle.endless_image.proofs.HoldingLaws.{at_first, area_behind}

-- HEADERS THAT DIFFER IN TWO BYTES

get_or_tail : (x : ℕ) (l : List ℕ) (k : ℕ) → get_or (x ∷ l) (k + 1) 0 ≡ get_or l k 0
get_or_tail x l k = ap (λ (n : ℕ). get_or (x ∷ l) n 0) (let e : k + 1 ≡ suc k = omega arith in e)

module _ (version mark : ℕ) (h : EndlessHeader) where
  -- the numbers between the first four bytes and the mark
  abbrev numbers : List ℕ
  numbers = short_bytes h.slots ++ (number_bytes h.cluster ++ number_bytes h.first_epoch)

  length-numbers : length (short_bytes h.slots ++ (number_bytes h.cluster ++ number_bytes h.first_epoch)) ≡ 20
  length-numbers =
      omega (arith, length-append (short_bytes h.slots) (number_bytes h.cluster ++ number_bytes h.first_epoch), length-append (number_bytes h.cluster) (number_bytes h.first_epoch), length-short h.slots, length-number h.cluster, length-number h.first_epoch)

  numbers_there : drop 4 (header_with version mark h) ≡ (short_bytes h.slots ++ (number_bytes h.cluster ++ number_bytes h.first_epoch)) ++ (mark ∷ zeros (1024 - 25))
  numbers_there =
      at_slots version mark h
      ∙ ap (λ (l : List ℕ). short_bytes h.slots ++ l) (sym (append_assoc (number_bytes h.cluster) (number_bytes h.first_epoch) (mark ∷ zeros (1024 - 25))))
      ∙ sym (append_assoc (short_bytes h.slots) (number_bytes h.cluster ++ number_bytes h.first_epoch) (mark ∷ zeros (1024 - 25)))

  at_number : (k : ℕ) → k < 20 → slice_index (header_with version mark h) (4 + k) ≡ slice_index (short_bytes h.slots ++ (number_bytes h.cluster ++ number_bytes h.first_epoch)) k
  at_number k below =
      sym (get_or-drop 4 (header_with version mark h) k 0)
      ∙ ap (λ (l : List ℕ). get_or l k 0) numbers_there
      ∙ get_or_append_left numbers (mark ∷ zeros (1024 - 25)) 0 k (omega (arith, length-numbers, below))

  at_end : (k : ℕ) → slice_index (header_with version mark h) (25 + k) ≡ slice_index (zeros (1024 - 25)) k
  at_end k =
      ap (slice_index (header_with version mark h)) (let e : 25 + k ≡ 24 + (k + 1) = omega arith in e)
      ∙ sym (get_or-drop 24 (header_with version mark h) (k + 1) 0)
      ∙ ap (λ (l : List ℕ). get_or l (k + 1) 0) (at_mark version mark h)
      ∙ get_or_tail mark (zeros (1024 - 25)) k

-- so elsewhere they are the same
same_elsewhere : (v m w n : ℕ) (h : EndlessHeader) (p : ℕ) → p ≢ 1 → p ≢ 24 → slice_index (header_with v m h) p ≡ slice_index (header_with w n h) p
same_elsewhere v m w n h p one two =
    elim (cases_lt p 4) [
      | inl front ↦
          elim (cases_eq p 0) [
            | inl zero_is ↦ ap (slice_index (header_with v m h)) zero_is ∙ reads_gate v m h ∙ sym (reads_gate w n h) ∙ ap (slice_index (header_with w n h)) (sym zero_is)
            | inr not_zero ↦
                elim (cases_eq p 2) [
                  | inl two_is ↦ ap (slice_index (header_with v m h)) two_is ∙ reads_disk v m h ∙ sym (reads_disk w n h) ∙ ap (slice_index (header_with w n h)) (sym two_is)
                  | inr not_two ↦
                      (let three : p ≡ 3 = omega (arith, front, not_zero, not_two, one) in
                      ap (slice_index (header_with v m h)) three ∙ reads_disks v m h ∙ sym (reads_disks w n h) ∙ ap (slice_index (header_with w n h)) (sym three))
                ]
          ]
      | inr from ↦
          elim (cases_lt p 24) [
            | inl number ↦
                (let e : p ≡ 4 + (p - 4) = omega (arith, from) in
                let k : p - 4 < 20 = omega (arith, number, from) in
                ap (slice_index (header_with v m h)) e ∙ at_number v m h (p - 4) k ∙ sym (at_number w n h (p - 4) k) ∙ ap (slice_index (header_with w n h)) (sym e))
            | inr past ↦
                (let e : p ≡ 25 + (p - 25) = omega (arith, past, two) in
                ap (slice_index (header_with v m h)) e ∙ at_end v m h (p - 25) ∙ sym (at_end w n h (p - 25)) ∙ ap (slice_index (header_with w n h)) (sym e))
          ]
    ]

-- bytes that are a header but for these two
pub header_by : (v m w n : ℕ) (h : EndlessHeader) (bytes : List ℕ) → length bytes ≡ 1024 → slice_index bytes 1 ≡ v → slice_index bytes 24 ≡ m → ((p : ℕ) → p < 1024 → p ≢ 1 → p ≢ 24 → slice_index bytes p ≡ slice_index (header_with w n h) p) → bytes ≡ header_with v m h
header_by v m w n h bytes many version mark others =
    ext_get_or 0 bytes (header_with v m h) (many ∙ sym (length-header v m h))
    (λ p inside.
    let below : p < 1024 = omega (arith, inside, many) in
    elim (cases_eq p 1) [
      | inl one ↦ ap (slice_index bytes) one ∙ version ∙ sym (reads_version v m h) ∙ ap (slice_index (header_with v m h)) (sym one)
      | inr not_one ↦
          elim (cases_eq p 24) [
            | inl two ↦ ap (slice_index bytes) two ∙ mark ∙ sym (reads_mark v m h) ∙ ap (slice_index (header_with v m h)) (sym two)
            | inr not_two ↦ others p below not_one not_two ∙ same_elsewhere w n v m h p not_one not_two
          ]
    ])

-- THE OLD HEADER

zeros_split : zeros (1024 - 16) ≡ number_bytes 0 ++ (0 ∷ zeros (1024 - 25))
unfolding zeros number_bytes
zeros_split = refl

older_is : (header : Header) → older.header_saying cluster_version header ≡ header_with 2 0 (endless_of header)
unfolding older.header_saying header_with
older_is header = ap (λ (l : List ℕ). 165 ∷ 2 ∷ header.disk ∷ header.disks ∷ (short_bytes header.slots ++ (number_bytes header.cluster ++ l))) zeros_split

module _ (disk : ℕ) (header : Header) (old : List ℕ) (is : IsExtended disk header old) where
  long_enough : 8192 ≤ length old
  long_enough = omega (arith, is.long)

  old_at : (p : ℕ) → p < 1024 → slice_index old p ≡ slice_index (header_with 2 0 (endless_of header)) p
  old_at p below = sym (get_or-take 1024 old p 0 below) ∙ ap (λ (l : List ℕ). slice_index l p) (is.right.spelled ∙ older_is header)

  -- what the first bytes say, with another version and mark
  pub patched_header : (version mark : ℕ) (bytes : List ℕ) → IsPatched version mark old bytes → take 1024 bytes ≡ header_with version mark (endless_of header)
  patched_header version mark bytes patched =
      header_by version mark 2 0 (endless_of header) (take 1024 bytes) (length-take-le 1024 bytes (omega (arith, patched.as_many, long_enough)))
      (get_or-take 1024 bytes 1 0 (omega arith) ∙ patched.at_version)
      (get_or-take 1024 bytes 24 0 (omega arith) ∙ patched.at_mark)
      (λ p below not_one not_two. get_or-take 1024 bytes p 0 below ∙ patched.others p not_one not_two ∙ old_at p below)

  may_be : IsEndlessHeader (endless_of header)
  may_be =
      record {
        among = record { below = is.right.may_be.disk; few = is.right.may_be.disks };
        slots = (is.slots, is.right.may_be.slots);
        epoch = omega arith;
      }

  pub found_old : IsEnding disk (length old) (take 1024 old) header
  found_old = record { right = is.right; slots = is.slots; room = omega (arith, is.long) }

  pub found_marked : (bytes : List ℕ) → IsMarked old bytes → IsUnfinished disk (length bytes) (take 1024 bytes) (endless_of header)
  found_marked bytes marked =
      record {
        version = marked.0;
        mark = marked.1;
        marked = marked.2;
        may_be = may_be;
        fits = is.right.fits;
        named = is.right.named;
        first = refl;
        room = omega (arith, marked.3.as_many, is.long);
        spelled = patched_header marked.0 marked.1 bytes marked.3;
      }

  pub new_header : (bytes : List ℕ) → IsNew old bytes → IsRight disk (size_of header.slots) (take 1024 bytes) (endless_of header)
  new_header bytes new =
      record {
        may_be = may_be;
        fits = is.right.fits;
        named = is.right.named;
        as_long = refl;
        spelled = patched_header 4 0 bytes new;
      }

  pub marked_refused : (v : Version) (named long : ℕ) (bytes : List ℕ) → IsMarked old bytes → HasNoHeader v named long (take 1024 bytes)
  marked_refused v named long bytes marked =
      subst (HasNoHeader v named long) (sym (patched_header marked.0 marked.1 bytes marked.3)) (no_older_marked v named long marked.0 marked.1 (endless_of header) marked.2)

  pub marked_unused : (named long : ℕ) (said : EndlessHeader) (bytes : List ℕ) → IsMarked old bytes → ¬ IsRight named long (take 1024 bytes) said
  marked_unused named long said bytes marked right =
      marked.2
      (sym (reads_mark marked.0 marked.1 (endless_of header))
      ∙ ap (λ (l : List ℕ). slice_index l 24) (sym (patched_header marked.0 marked.1 bytes marked.3) ∙ right.spelled)
      ∙ reads_mark 4 0 said)

  -- WHAT STAYS

  patched_only : (version mark : ℕ) (bytes : List ℕ) → IsPatched version mark old bytes → ChangesOnly 0 25 old bytes
  patched_only version mark bytes patched =
      record {
        as_many = patched.as_many;
        below = λ k none. absurd (omega (arith, none));
        above = λ k from. patched.others k (λ same. absurd (omega (arith, from, same))) (λ same. absurd (omega (arith, from, same)));
      }

  left_only : (bytes : List ℕ) → IsLeft old bytes → ChangesOnly 0 25 old bytes
  left_only bytes (inl same) =
      record { as_many = ap length same; below = λ k none. ap (λ (l : List ℕ). slice_index l k) same; above = λ k from. ap (λ (l : List ℕ). slice_index l k) same }
  left_only bytes (inr (inl marked)) = patched_only marked.0 marked.1 bytes marked.3
  left_only bytes (inr (inr new)) = patched_only 4 0 bytes new

  pub log_stays : (bytes : List ℕ) (spot : Spot) → IsLeft old bytes → IsSpot cluster_version header.slots spot → block_at header.slots 0 spot bytes ≡ block_in cluster_version (place_of cluster_version spot) old
  log_stays bytes spot left is_spot =
      let fits = spot_fits Version2 header.slots spot is_spot in
      let behind = area_behind spot in
      let same : base_of (area_size header.slots) 0 + place_of cluster_version spot ≡ place_of cluster_version spot = omega arith in
      ap (λ (n : ℕ). block_in cluster_version n bytes) same
      ∙ block_elsewhere Version2 (place_of cluster_version spot) 0 25 old bytes (omega (arith, is.long, fits)) (left_only bytes left) (inl (omega (arith, behind)))

  pub rows_stay : (bytes : List ℕ) (slot : ℕ) → IsLeft old bytes → slot < header.slots → row_of cluster_version slot bytes ≡ row_of cluster_version slot old
  rows_stay bytes slot left below =
      let only = left_only bytes left in
      let a = row_place cluster_version slot in
      let many : (a + 4096) - a ≡ 4096 = omega arith in
      let within : a + 4096 ≤ length old = omega (arith, is.long, below) in
      let room : 4096 ≤ length (drop a old) = omega (arith, within, length-drop a old) in
      ap (λ (n : ℕ). take n (drop a bytes)) many
      ∙ run_is bytes (take 4096 (drop a old)) a 4096 0 (length-take-le 4096 (drop a old) room) (omega (arith, within, only.as_many))
      (λ k inside. only.above (a + k) (omega arith) ∙ sym (get_or-take 4096 (drop a old) k 0 inside ∙ get_or-drop a old k 0))
      ∙ ap (λ (n : ℕ). take n (drop a old)) (sym many)

  pub first_stays : (bytes : List ℕ) → IsLeft old bytes → IsAtFirst header.slots bytes
  first_stays bytes left =
      let only = left_only bytes left in
      at_first header.slots bytes (only.as_many ∙ is.long) (λ p from. only.above p (omega (arith, from)) ∙ is.zeros p from)
