-- Which positions are marked after a write, and after a step of the epoch.
use Rattle.std.proofs.Common.{◌≡◌, ℕ, ◌+◌, ◌-◌, ◌*◌, ◌/◌, ◌%◌, ◌<◌, ◌≤◌, ◌==◌, min, max, Bool, true, false, cond, List, [], ◌++◌, length, get_or, set, replicate, refl, sym, ◌∙◌, ap, inl, inr, arith}
use Rattle.std.proofs.lemmas.Bool.{cases_lt, ne_eqb}
use Rattle.std.proofs.lemmas.List.{length-replicate, get_or-replicate, get_or_past, ext_get_or}
use Rattle.std.proofs.lemmas.List.FromFn.{length-map-range_with_len, get_or-map-range_with_len}
use Rattle.std.proofs.lemmas.Nat.Bits.{bit_at-zero}
use Rattle.std.specs.Int.{bit_at}
use Rattle.disk.specs.Disk.{put_at}
use Rattle.disk.proofs.CrashLemmas.{length-put}
use Rattle.disk.proofs.ListLemmas.{get_or_more, set_each}
use Rattle.disk.proofs.PutLemmas.{put_each}
use Rattle.disk.specs.declared.word.Word.{Word}
use Rattle.disk.specs.Marks.{blank, is_marked_in, is_marked, marks, all_marks}

pub length-marks : (epoch : ℕ) (words : List Word) (size : ℕ) → length (marks epoch words size) ≡ size
unfolding marks
length-marks epoch words size = length-map-range_with_len (is_marked epoch words) 0 size

pub get_or-marks : (epoch : ℕ) (words : List Word) (size k : ℕ) → k < size → get_or (marks epoch words size) k false ≡ is_marked epoch words k
unfolding marks
get_or-marks epoch words size k within = get_or-map-range_with_len (is_marked epoch words) 0 size k k false within (omega arith)

-- between the two lists of words the range alone was marked
pub record MarksRange (epoch at end : ℕ) (old new : List Word) : Type 0 where
  pub inside : (k : ℕ) → at ≤ k → k < end → is_marked epoch new k ≡ true
  pub outside : (k : ℕ) → (at ≤ k → k < end → ⊥) → is_marked epoch new k ≡ is_marked epoch old k

-- as a list of flags: the range is put into it
pub marks_put : (epoch at end reached : ℕ) (old new : List Word) → at ≤ end → reached ≡ end → MarksRange epoch at reached old new → (size : ℕ) → end ≤ size → marks epoch new size ≡ put_at (marks epoch old size) at (replicate (end - at) true)
marks_put epoch at end reached old new order all range size fits =
    let flags = marks epoch old size in
    let run = replicate (end - at) true in
    let n : length run ≡ end - at = length-replicate (end - at) true in
    let within : at + length run ≤ length flags = omega (arith, n, length-marks epoch old size) in
    ext_get_or false (marks epoch new size) (put_at flags at run) (length-marks epoch new size ∙ sym (length-put flags at run within false ∙ length-marks epoch old size))
    (λ k inside.
    let k_in : k < size = omega (arith, length-marks epoch new size) in
    let now = get_or-marks epoch new size k k_in in
    put_each flags run at false within (λ (b : Bool). get_or (marks epoch new size) k false ≡ b) k
    (λ j is under. now ∙ range.inside k (omega (arith, is)) (omega (arith, is, under, n, all)) ∙ sym (get_or-replicate (end - at) j true false (omega (arith, under, n))))
    (λ off. now ∙ range.outside k (λ from under. off from (omega (arith, under, n, all, order))) ∙ sym (get_or-marks epoch old size k k_in)))

-- ONE WORD MORE

-- in this word the places from `from` up to `to` were marked
pub record MarksPlaces (epoch from to : ℕ) (old new : Word) : Type 0 where
  pub below : (k : ℕ) → k < from → is_marked_in epoch new k ≡ is_marked_in epoch old k
  pub inside : (k : ℕ) → from ≤ k → k < to → is_marked_in epoch new k ≡ true
  pub above : (k : ℕ) → to ≤ k → is_marked_in epoch new k ≡ is_marked_in epoch old k

-- how far the range is marked before a word
abbrev pub reached : ℕ → ℕ → ℕ → ℕ
reached at end i = min end (max at (64 * i))

module _ (epoch at end i from to : ℕ) (old words : List Word) (cell word : Word) (within : i < length words) (is : cell ≡ get_or words i blank) (order : at ≤ end) (first : at / 64 ≤ i) (last : 64 * i < end) (low : from ≡ at - 64 * i) (high : to ≡ min (end - 64 * i) 64) where
  was_in_word : (k : ℕ) → k / 64 ≡ i → is_marked_in epoch cell (k % 64) ≡ is_marked epoch words k
  was_in_word k e =
      ap (λ (w : Word). is_marked_in epoch w (k % 64)) is
      ∙ ap (λ (j : ℕ). is_marked_in epoch (get_or words j blank) (k % 64)) (sym e)

  pub marks_more : MarksRange epoch at (reached at end i) old words → MarksPlaces epoch from to cell word → MarksRange epoch at (reached at end (i + 1)) old (set words i word)
  marks_more range places =
      record {
        inside = λ k from under.
            set_each words i word blank within (λ (w : Word). is_marked_in epoch w (k % 64) ≡ true) (k / 64)
            (λ e. places.inside (k % 64) (omega arith) (omega arith))
            (λ other. range.inside k from (let before : k < 64 * i = elim (cases_lt k (64 * i)) [ inl l ↦ l | inr g ↦ (let e : k / 64 ≡ i = omega arith in absurd (other e)) ] in omega arith));
        outside = λ k out.
            set_each words i word blank within (λ (w : Word). is_marked_in epoch w (k % 64) ≡ is_marked epoch old k) (k / 64)
            (λ e.
            let above : from ≤ k % 64 → to ≤ k % 64 = λ past. elim (cases_lt (k % 64) to) [ inl under ↦ absurd (out (omega arith) (omega arith)) | inr over ↦ over ] in
            let here : is_marked_in epoch word (k % 64) ≡ is_marked_in epoch cell (k % 64) = elim (cases_lt (k % 64) from) [ inl below ↦ places.below (k % 64) below | inr past ↦ places.above (k % 64) (above past) ] in
            here ∙ was_in_word k e ∙ range.outside k (λ first under. out first (omega arith)))
            (λ other. range.outside k (λ first under. out first (omega arith)));
      }

-- A NEW EPOCH

-- no stamp is a later epoch
pub marks_later : (later : ℕ) (words : List Word) (size : ℕ) → 0 < later → ((j : ℕ) → j < length words → (get_or words j blank).stamp < later) → marks later words size ≡ replicate size false
marks_later later words size some below =
    let n : length (replicate size false) ≡ size = length-replicate size false in
    ext_get_or false (marks later words size) (replicate size false) (length-marks later words size ∙ sym n)
    (λ k inside.
    let k_in : k < size = omega (arith, length-marks later words size) in
    let word = get_or words (k / 64) blank in
    let earlier : word.stamp < later =
    elim (cases_lt (k / 64) (length words)) [
      | inl present ↦ below (k / 64) present
      | inr past ↦ (let e : word.stamp ≡ 0 = ap (λ (w : Word). w.stamp) (get_or_past words (k / 64) blank past) in omega arith)
    ] in
    let other : (word.stamp == later) ≡ false = ne_eqb word.stamp later (λ e. omega arith) in
    get_or-marks later words size k k_in
    ∙ ap (λ (b : Bool). bit_at (cond b word.bits 0) (k % 64) == 1) other
    ∙ ap (λ (n : ℕ). n == 1) (bit_at-zero (k % 64))
    ∙ sym (get_or-replicate size k false false k_in))

-- ALL WORDS

none_of_none : (b : Bool) → ◌≡◌ {A = ℕ} (cond {A = ℕ} b 0 0) 0
none_of_none true = refl
none_of_none false = refl

blank_unmarked : (epoch place : ℕ) → is_marked_in epoch blank place ≡ false
blank_unmarked epoch place =
    ap (λ (n : ℕ). bit_at n place == 1) (none_of_none (0 == epoch)) ∙ ap (λ (n : ℕ). n == 1) (bit_at-zero place)

-- behind the words nothing is marked
pub get_or-all_marks : (epoch : ℕ) (words : List Word) (k : ℕ) → get_or (all_marks epoch words) k false ≡ is_marked epoch words k
get_or-all_marks epoch words k =
    elim (cases_lt k (64 * length words)) [
      | inl under ↦ get_or-marks epoch words (64 * length words) k under
      | inr past ↦
          (let word = get_or words (k / 64) blank in
          let is : word ≡ blank = get_or_past words (k / 64) blank (omega arith) in
          get_or_past (all_marks epoch words) k false (omega (arith, length-marks epoch words (64 * length words), past))
          ∙ sym (blank_unmarked epoch (k % 64))
          ∙ ap (λ (w : Word). is_marked_in epoch w (k % 64)) (sym is))
    ]

-- blank words more mark nothing
pub more_words : (epoch : ℕ) (words : List Word) (n k : ℕ) → get_or (all_marks epoch (words ++ replicate n blank)) k false ≡ get_or (all_marks epoch words) k false
more_words epoch words n k =
    get_or-all_marks epoch (words ++ replicate n blank) k
    ∙ ap (λ (w : Word). is_marked_in epoch w (k % 64)) (get_or_more words n (k / 64) blank)
    ∙ sym (get_or-all_marks epoch words k)

-- once nothing is marked
pub none_marked : (epoch : ℕ) (words : List Word) (k : ℕ) → ((size : ℕ) → marks epoch words size ≡ replicate size false) → get_or (all_marks epoch words) k false ≡ false
none_marked epoch words k none =
    ap (λ (l : List Bool). get_or l k false) (none (64 * length words)) ∙ get_or_more [] (64 * length words) k false

pub none_at_first : (k : ℕ) → get_or (all_marks 1 []) k false ≡ false
none_at_first k = get_or-all_marks 1 [] k ∙ blank_unmarked 1 (k % 64)

-- the range was marked
pub all_marks_put : (epoch at n : ℕ) (old new : List Word) → at + n ≤ 64 * length old → length new ≡ length old → ((size : ℕ) → at + n ≤ size → marks epoch new size ≡ put_at (marks epoch old size) at (replicate ((at + n) - at) true)) → all_marks epoch new ≡ put_at (all_marks epoch old) at (replicate n true)
all_marks_put epoch at n old new fits as_many marked =
    let run : (at + n) - at ≡ n = omega arith in
    ap (λ (k : ℕ). marks epoch new (64 * k)) as_many
    ∙ marked (64 * length old) fits
    ∙ ap (λ (k : ℕ). put_at (all_marks epoch old) at (replicate k true)) run
