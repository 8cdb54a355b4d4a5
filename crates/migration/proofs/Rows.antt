-- What an image of zeros holds once the rows of a log are written into it, all at once.
use Rattle.std.specs.Prelude.{All, slice_get}
use Rattle.std.proofs.Common.{ℕ, ◌+◌, ◌-◌, ◌*◌, ◌≤◌, ◌<◌, ◌≡◌, ◌≢◌, Some, List, [], ◌++◌, length, sym, ap, ◌∙◌, arith}
use Rattle.disk.specs.Disk.{put_at}
use Rattle.torn_block.specs.declared.layout.TheConstants.{VALUE_LENGTH, BLOCK_LENGTH, ROW_LENGTH}
use Rattle.torn_block.specs.Layout.{cluster_version}
use Rattle.torn_block.specs.Place.{block_in}
use Rattle.paxos_block.specs.Places.{Spot, VoteOf, IsSpot, place_of, row_place, image_length}
use Rattle.paxos_block.specs.Saying.{zeros}
use Rattle.paxos_block.proofs.PlaceLemmas.{spot_fits}
use Rattle.paxos_block.proofs.SayingLemmas.{length-zeros, zeros_joined}
use Rattle.paxos_block.specs.Image.{block_for, rows_for}
use Rattle.migration.specs.Plan.{blocks_from}
use Rattle.migration.proofs.Puts.{puts, put_in_zeros, rows_written}
use Rattle.migration.proofs.Reading.{puts_elsewhere, apart_from, stands, blank_block, length-rows}

module _ (slots : ℕ) (log : List (List ℕ)) (few : length log ≤ slots) (values : All (λ value. length value ≡ VALUE_LENGTH) log) where
  abbrev pub with_rows : List ℕ
  with_rows = put_at (zeros (image_length cluster_version slots)) (row_place cluster_version 0) (rows_for log)

  -- part by part: zeros, the rows, and zeros for the slots that are left
  pub part_by_part : with_rows ≡ zeros (row_place cluster_version 0) ++ (rows_for log ++ zeros (ROW_LENGTH * (slots - length log)))
  part_by_part =
      let sum : image_length cluster_version slots ≡ row_place cluster_version 0 + ROW_LENGTH * slots = omega arith in
      let size = length-rows log values in
      let left : ROW_LENGTH * slots - length (rows_for log) ≡ ROW_LENGTH * (slots - length log) = omega (arith, size, few) in
      ap (λ (n : ℕ). put_at (zeros n) (row_place cluster_version 0) (rows_for log)) sum
      ∙ ap (λ (l : List ℕ). put_at l (row_place cluster_version 0) (rows_for log)) (zeros_joined (row_place cluster_version 0) (ROW_LENGTH * slots))
      ∙ put_in_zeros (zeros (row_place cluster_version 0)) (rows_for log) (row_place cluster_version 0) (ROW_LENGTH * slots) (length-zeros (row_place cluster_version 0)) (omega (arith, size, few))
      ∙ ap (λ (n : ℕ). zeros (row_place cluster_version 0) ++ (rows_for log ++ zeros n)) left

  -- row by row it is the same
  row_by_row : with_rows ≡ puts (zeros (image_length cluster_version slots)) (blocks_from 0 log ++ [])
  row_by_row =
      let sum : image_length cluster_version slots ≡ row_place cluster_version 0 + ROW_LENGTH * slots = omega arith in
      part_by_part
      ∙ sym (rows_written log slots 0 (zeros (row_place cluster_version 0)) [] (length-zeros (row_place cluster_version 0)) few values)
      ∙ ap (λ (l : List ℕ). puts l (blocks_from 0 log ++ [])) (sym (zeros_joined (row_place cluster_version 0) (ROW_LENGTH * slots)))
      ∙ ap (λ (n : ℕ). puts (zeros n) (blocks_from 0 log ++ [])) (sym sum)

  -- host 0's block of each slot of the log says its value
  pub rows_hold : (k : ℕ) (value : List ℕ) → slice_get log k ≡ Some value → block_in cluster_version (place_of cluster_version (VoteOf k 0)) with_rows ≡ block_for value
  rows_hold k value is =
      let number : k ≡ 0 + k = omega arith in
      ap (block_in cluster_version (place_of cluster_version (VoteOf k 0))) row_by_row
      ∙ ap (λ (j : ℕ). block_in cluster_version (place_of cluster_version (VoteOf j 0)) (puts (zeros (image_length cluster_version slots)) (blocks_from 0 log ++ []))) number
      ∙ stands slots [] (λ spot is. tt) 0 log (zeros (image_length cluster_version slots)) (length-zeros (image_length cluster_version slots)) (omega (arith, few)) values k value is

  -- and every other block is blank
  pub rows_hold_no_more : (spot : Spot) → IsSpot cluster_version slots spot → ((k : ℕ) → k < length log → spot ≢ VoteOf k 0) → block_in cluster_version (place_of cluster_version spot) with_rows ≡ zeros BLOCK_LENGTH
  rows_hold_no_more spot is other =
      let room = spot_fits cluster_version slots spot is in
      ap (block_in cluster_version (place_of cluster_version spot)) row_by_row
      ∙ puts_elsewhere (image_length cluster_version slots) (place_of cluster_version spot) (zeros (image_length cluster_version slots)) (blocks_from 0 log ++ []) (length-zeros (image_length cluster_version slots)) room
      (apart_from slots [] spot is tt 0 log (omega (arith, few)) values (λ i from below. other i (omega (arith, below))))
      ∙ blank_block slots (place_of cluster_version spot) room
