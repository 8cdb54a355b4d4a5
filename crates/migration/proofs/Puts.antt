-- The writes of a migration, one after the other, and what they make of an image of zeros.
use Rattle.std.specs.Prelude.{All}
use Rattle.std.proofs.Common.{ℕ, suc, ◌+◌, ◌-◌, ◌*◌, ◌≤◌, ◌≡◌, List, [], ◌∷◌, ◌++◌, length, drop, refl, sym, ap, ◌∙◌, arith, append_assoc, length-append, length-drop}
use Rattle.std.proofs.lemmas.List.{take_at, drop_at}
use Rattle.disk.specs.Disk.{put_at}
use Rattle.torn_block.specs.Layout.{cluster_version}
use Rattle.torn_block.specs.declared.block.TheConstants.{OPEN_GATE}
use Rattle.torn_block.specs.declared.layout.TheConstants.{VALUE_LENGTH, BLOCK_LENGTH, HEADER_LENGTH, ROW_LENGTH}
use Rattle.paxos_block.specs.Headers.{header_saying}
use Rattle.paxos_block.specs.Places.{image_length, place_of, row_place, VoteOf}
use Rattle.paxos_block.specs.Saying.{zeros}
use Rattle.paxos_block.proofs.SayingLemmas.{length-zeros, zeros_joined}
use Rattle.migration.specs.Fits.{Fits}
use Rattle.paxos_block.specs.Image.{Setup, header_of, block_for, row_for, rows_for, image_of}
use Rattle.migration.specs.Plan.{Put, blocks_from, heading}
use Rattle.migration.proofs.Lengths.{length-block, length-header}

-- the bytes after these writes
abbrev pub puts : List ℕ → List Put → List ℕ
puts bytes [] = bytes
puts bytes (w ∷ ws) = puts (put_at bytes w.0 w.1) ws

pub puts-append : (bytes : List ℕ) (ws vs : List Put) → puts bytes (ws ++ vs) ≡ puts (puts bytes ws) vs
puts-append bytes [] vs = refl
puts-append bytes (w ∷ ws) vs = puts-append (put_at bytes w.0 w.1) ws vs

-- all that is written on a disk before its gate
abbrev pub filled : Setup → ℕ → List ℕ
filled s d = puts (zeros (image_length cluster_version s.slots)) (blocks_from 0 s.log ++ heading s d ∷ [])

-- the middle of three parts is written anew
put_middle : (a b c x : List ℕ) (place : ℕ) → length a ≡ place → length b ≡ length x → put_at (a ++ (b ++ c)) place x ≡ a ++ (x ++ c)
put_middle a b c x place at as_long =
    let front = take_at a (b ++ c) place at in
    let long : length (a ++ b) ≡ place + length x = omega (arith, length-append a b, at, as_long) in
    let back : drop (place + length x) (a ++ (b ++ c)) ≡ c = ap (drop (place + length x)) (sym (append_assoc a b c)) ∙ drop_at (a ++ b) c (place + length x) long in
    ap (λ (l : List ℕ). l ++ x ++ drop (place + length x) (a ++ (b ++ c))) front
    ∙ ap (λ (l : List ℕ). a ++ x ++ l) back
    ∙ append_assoc a x c

pub put_in_zeros : (before x : List ℕ) (place n : ℕ) → length before ≡ place → length x ≤ n → put_at (before ++ zeros n) place x ≡ before ++ (x ++ zeros (n - length x))
put_in_zeros before x place n at fits =
    let sum : n ≡ length x + (n - length x) = omega arith in
    ap (λ (k : ℕ). put_at (before ++ zeros k) place x) sum
    ∙ ap (λ (l : List ℕ). put_at (before ++ l) place x) (zeros_joined (length x) (n - length x))
    ∙ put_middle before (zeros (length x)) (zeros (n - length x)) x place at (length-zeros (length x))

-- THE ROWS

-- the rows of a log are written into zeros
pub rows_written : (log : List (List ℕ)) (n k : ℕ) (before : List ℕ) (more : List Put) → length before ≡ row_place cluster_version k → length log ≤ n → All (λ value. length value ≡ VALUE_LENGTH) log
    → puts (before ++ zeros (ROW_LENGTH * n)) (blocks_from k log ++ more) ≡ puts (before ++ (rows_for log ++ zeros (ROW_LENGTH * (n - length log)))) more
rows_written [] n k before more at within long = let same : n ≡ n - 0 = omega arith in ap (λ (m : ℕ). puts (before ++ zeros (ROW_LENGTH * m)) more) same
rows_written (value ∷ log) n k before more at within long =
    let block = block_for value in
    let size = length-block value (long 0 [] (omega arith)) in
    let rest : ROW_LENGTH * n - length block ≡ (ROW_LENGTH - BLOCK_LENGTH) + ROW_LENGTH * (n - 1) = omega (arith, size, within) in
    let row : put_at (before ++ zeros (ROW_LENGTH * n)) (place_of cluster_version (VoteOf k 0)) block ≡ (before ++ row_for value) ++ zeros (ROW_LENGTH * (n - 1)) =
    put_in_zeros before block (place_of cluster_version (VoteOf k 0)) (ROW_LENGTH * n) (omega (arith, at)) (omega (arith, size, within))
    ∙ ap (λ (m : ℕ). before ++ (block ++ zeros m)) rest
    ∙ ap (λ (l : List ℕ). before ++ (block ++ l)) (zeros_joined (ROW_LENGTH - BLOCK_LENGTH) (ROW_LENGTH * (n - 1)))
    ∙ ap (λ (l : List ℕ). before ++ l) (sym (append_assoc block (zeros (ROW_LENGTH - BLOCK_LENGTH)) (zeros (ROW_LENGTH * (n - 1)))))
    ∙ sym (append_assoc before (row_for value) (zeros (ROW_LENGTH * (n - 1)))) in
    let left : (n - 1) - length log ≡ n - suc (length log) = omega arith in
    let next : length (before ++ row_for value) ≡ row_place cluster_version (suc k) =
    omega (arith, at, size, length-append before (row_for value), length-append block (zeros (ROW_LENGTH - BLOCK_LENGTH)), length-zeros (ROW_LENGTH - BLOCK_LENGTH)) in
    ap (λ (l : List ℕ). puts l (blocks_from (suc k) log ++ more)) row
    ∙ rows_written log (n - 1) (suc k) (before ++ row_for value) more next (omega (arith, within)) (λ i d inside. long (suc i) d (omega arith))
    ∙ ap (λ (m : ℕ). puts ((before ++ row_for value) ++ (rows_for log ++ zeros (ROW_LENGTH * m))) more) left
    ∙ ap (λ (l : List ℕ). puts l more) (append_assoc before (row_for value) (rows_for log ++ zeros (ROW_LENGTH * (n - suc (length log))))
    ∙ ap (λ (l : List ℕ). before ++ l) (sym (append_assoc (row_for value) (rows_for log) (zeros (ROW_LENGTH * (n - suc (length log)))))))

-- THE WHOLE IMAGE

module _ (s : Setup) (d : ℕ) (fits : Fits s) where
  -- the gate, and all behind it
  gate : List Put
  gate = (0, OPEN_GATE ∷ []) ∷ []

  abbrev rows : List ℕ
  rows = rows_for s.log ++ zeros (ROW_LENGTH * (s.slots - length s.log))

  abbrev behind : List ℕ
  behind = zeros (row_place cluster_version 0 - HEADER_LENGTH) ++ rows

  abbrev tail : List ℕ
  tail = drop 1 (header_saying cluster_version (header_of s d))

  header_is : header_saying cluster_version (header_of s d) ≡ OPEN_GATE ∷ tail
  unfolding header_saying
  header_is = refl

  length-tail : length tail ≡ HEADER_LENGTH - 1
  length-tail = omega (arith, length-drop 1 (header_saying cluster_version (header_of s d)), length-header (header_of s d))

  -- but for the gate
  pub filled_is : filled s d ≡ zeros 1 ++ (tail ++ behind)
  filled_is =
      let sum : image_length cluster_version s.slots ≡ row_place cluster_version 0 + ROW_LENGTH * s.slots = omega arith in
      let front : zeros (row_place cluster_version 0) ≡ zeros 1 ++ (zeros (HEADER_LENGTH - 1) ++ zeros (row_place cluster_version 0 - HEADER_LENGTH)) =
      zeros_joined 1 8191 ∙ ap (λ (l : List ℕ). zeros 1 ++ l) (zeros_joined 1023 7168) in
      ap (λ (n : ℕ). puts (zeros n) (blocks_from 0 s.log ++ heading s d ∷ [])) sum
      ∙ ap (λ (l : List ℕ). puts l (blocks_from 0 s.log ++ heading s d ∷ [])) (zeros_joined (row_place cluster_version 0) (ROW_LENGTH * s.slots))
      ∙ rows_written s.log s.slots 0 (zeros (row_place cluster_version 0)) (heading s d ∷ []) (length-zeros (row_place cluster_version 0)) fits.room.log fits.values
      ∙ ap (λ (l : List ℕ). put_at (l ++ rows) 1 tail) front
      ∙ ap (λ (l : List ℕ). put_at l 1 tail) (append_assoc (zeros 1) (zeros 1023 ++ zeros 7168) rows ∙ ap (λ (l : List ℕ). zeros 1 ++ l) (append_assoc (zeros 1023) (zeros 7168) rows))
      ∙ put_middle (zeros 1) (zeros 1023) behind tail 1 (length-zeros 1) (length-zeros 1023 ∙ sym length-tail)

  pub image_is : image_of s d ≡ OPEN_GATE ∷ (tail ++ behind)
  image_is = ap (λ (l : List ℕ). l ++ behind) header_is

  -- the gate makes it complete
  pub completes : put_at (filled s d) 0 (OPEN_GATE ∷ []) ≡ image_of s d
  completes =
      ap (λ (l : List ℕ). put_at l 0 (OPEN_GATE ∷ [])) filled_is
      ∙ put_middle [] (zeros 1) (tail ++ behind) (OPEN_GATE ∷ []) 0 refl (length-zeros 1)
      ∙ sym image_is

  pub tails_are : drop 1 (filled s d) ≡ drop 1 (image_of s d)
  tails_are = ap (drop 1) filled_is ∙ drop_at (zeros 1) (tail ++ behind) 1 (length-zeros 1) ∙ sym (ap (drop 1) image_is)
